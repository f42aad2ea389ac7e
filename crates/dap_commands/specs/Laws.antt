-- What one end of the program writes the other calls good, over the bytes that were written.
use Rattle.std.specs.Prelude.{◌≡◌, ◌≢◌, ℕ, ◌<◌, List, [], length, Option, Some, Ok}
use Rattle.std.specs.Io.KnownBytes.{Appends}
use Rattle.dap_types.specs.Limits.{body_limit}
use Rattle.dap_outside.specs.Causes.{Rose}
use Rattle.dap_outside.specs.Links.{LinkState}
use Rattle.dap_http.specs.Targets.{target_of}
use Rattle.dap_http.specs.declared.kind.Kind.TheVariants.{Dods}
use Rattle.dap_server.specs.Connections.{put_from}
use Rattle.dap_server.specs.Files.{Files, form_of, front, netcdf}
use Rattle.dap_server.specs.Results.{Results, result_text}
use Rattle.dap_server.specs.Whole.{AnswersAll}
use Rattle.netcdf_source.specs.Header.{IsHeader}
use Rattle.netcdf_source.specs.Mapping.{dataset_of}
use Rattle.netcdf_source.specs.Values.{file_trees}
use Rattle.netcdf_source.specs.declared.header.Contents.{Contents}
use Rattle.netcdf_writer.specs.Saving.{Judges}
use Rattle.netcdf_writer.specs.declared.stored.Stored.TheVariants.{Written}
use Rattle.both_ends.specs.Ends.{HoldBytes, IsGoodResult, StandGood}
use Rattle.dap_commands.specs.Serve.{IsVisit, Visit}
use Rattle.dap_commands.specs.ServerHalf.{Answering, Says}
use Rattle.dap_commands.specs.declared.status.Status.TheVariants.{Complete}

-- Where `answer` is complete for a target that asks for values, over a shelf that tells files which hold bytes: what
-- the output gained is, if it has fewer than 2^40 bytes, a good data response of what the constraint leaves of the
-- stored file.
abbrev pub AnsweredIsGood : Type 0
AnsweredIsGood = (target name query : List ℕ) (files : Files) (a : Answering) → target_of target ≡ Some (record { name = name; kind = Dods; query = query }) → HoldBytes files → Says target files a Complete
    → (text : List ℕ) × Appends a.puts.out a.puts.out_then text × (length text < body_limit → IsGoodResult target files text)

-- A link gained the replies to its requests, and each of them that answers GET with such a data response is good where it
-- stands there.
abbrev pub IsGoodVisit : {W : Type 0} → Files → (W → LinkState) → Visit W → Type 0
IsGoodVisit files state v = Appends (state v.came).written (state v.back).written (put_from 1 v.connection) × StandGood files (put_from 1 v.connection) v.connection.turns

-- Where the input of the link is told, no count of it rose and memory was had, it gained the replies to all its requests,
-- and they are good so.
abbrev pub IsWholeGoodVisit : {W : Type 0} → Files → (W → LinkState) → Visit W → Type 0
IsWholeGoodVisit files state v =
    (input : List ℕ) → (state v.came).left ≡ Some input
    → ¬ (Rose (state v.came).take_faults (state v.back).take_faults) → ¬ (Rose (state v.came).put_faults (state v.back).put_faults) → v.served.status ≢ 503
    → (gained : List ℕ) × Appends (state v.came).written (state v.back).written gained × ((all : AnswersAll input files gained v.served) × StandGood files gained all.replies.turns)

-- each link that `serve` has handed back, over a shelf that tells these files
abbrev pub VisitsAreGood : Type 0 → Type 0
VisitsAreGood W = (files : Files) (state : W → LinkState) (v : Visit W) → HoldBytes files → IsVisit (Some files) state v → IsGoodVisit files state v

-- a target asks for all of a netCDF file of that name
pub record AsksFile (target name file : List ℕ) (files : Files) : Type 0 where
  pub is_target : target_of target ≡ Some (record { name = name; kind = Dods; query = [] })
  pub form : form_of name ≡ Some netcdf
  pub there : files name ≡ Some file

-- a netCDF file has the dataset of another one, whose header says this, under whatever name, and its values
pub record IsSameFile (c : Contents) (file saved : List ℕ) : Type 0 where
  pub contents : Contents
  pub header : IsHeader contents (front saved) (length saved)
  pub dataset : (name : List ℕ) → dataset_of contents name ≡ dataset_of c name
  pub trees : file_trees contents saved ≡ file_trees c file

-- The data response that such a target is answered with, over files which hold bytes: where it is saved, the output gained a
-- netCDF file of the same dataset and values.
abbrev pub AnswerIsSaved : Type 0
AnswerIsSaved = (target name file text : List ℕ) (files : Files) → AsksFile target name file files → HoldBytes files → Results target files (Ok (result_text Dods text))
    → (before now : Option (List ℕ)) (bytes : ℕ) → Judges text before now (Written bytes)
    → (c : Contents) × IsHeader c (front file) (length file) × ((saved : List ℕ) × Appends before now saved × (bytes ≡ length saved) × IsSameFile c file saved)
