-- The words of a command line (this project's).
use Rattle.std.specs.Prelude.{◌≡◌, ℕ, ◌^◌, ◌<◌, ◌≤◌, List, [], ◌∷◌, ◌⊎◌, IsTrue, codes, length, Some}
use Rattle.std.specs.Str.Parse.{digits_value}
use Rattle.dap_types.specs.Limits.{most_constraints, most_links, most_port, most_records, most_room, most_workers}
use Rattle.dap_http.specs.Urls.{UrlParts, is_host, url_of}
use Rattle.dap_http.specs.declared.kind.Kind.{Kind}
use Rattle.dap_http.specs.declared.kind.Kind.TheVariants as kinds
use Rattle.viable.specs.Numerals.{is_numeral}
use Rattle.dap_commands.specs.declared.command.Command.{Command}
use Rattle.dap_commands.specs.declared.command.Command.TheVariants.{Answer, Show, Serve, Ver, Soak, Fetch, Relay, Save, SaveUrl, Other}

-- the word is a number from 1 to that one, in 1 to 20 digits
abbrev pub IsNumber : ℕ → List ℕ → ℕ → Type 0
IsNumber most word n = IsTrue (is_numeral 20 word) × (n ≡ digits_value 10 word) × (1 ≤ n) × (n ≤ most)

-- the word is a number below 2^64, in 1 to 20 digits
abbrev pub IsSeed : List ℕ → ℕ → Type 0
IsSeed word n = IsTrue (is_numeral 20 word) × (n ≡ digits_value 10 word) × (n < 2 ^ 64)

-- `answer TARGET`, which is with 1 worker, or `answer TARGET WORKERS`
abbrev pub AreAnswer : List (List ℕ) → List ℕ → ℕ → Type 0
AreAnswer words target workers =
    ((words ≡ codes "answer" ∷ target ∷ []) × (workers ≡ 1))
    ⊎ ((word : List ℕ) × (words ≡ codes "answer" ∷ target ∷ word ∷ []) × IsNumber most_workers word workers)

-- `show`
abbrev pub IsShow : List (List ℕ) → Type 0
IsShow words = words ≡ codes "show" ∷ []

-- `serve PORT WORKERS REQUESTS`
abbrev pub AreServe : List (List ℕ) → ℕ → ℕ → ℕ → Type 0
AreServe words port workers requests =
    (port_word : List ℕ) × (workers_word : List ℕ) × (requests_word : List ℕ)
    × (words ≡ codes "serve" ∷ port_word ∷ workers_word ∷ requests_word ∷ [])
    × IsNumber most_port port_word port × IsNumber most_workers workers_word workers × IsNumber most_links requests_word requests

-- `ver`
abbrev pub IsVer : List (List ℕ) → Type 0
IsVer words = words ≡ codes "ver" ∷ []

-- `soak START SIZE`
abbrev pub AreSoak : List (List ℕ) → ℕ → ℕ → Type 0
AreSoak words start records =
    (start_word : List ℕ) × (size_word : List ℕ) × (words ≡ codes "soak" ∷ start_word ∷ size_word ∷ []) × IsSeed start_word start × IsNumber most_records size_word records

-- `relay HOST UPPORT PORT ROOM REQUESTS`
abbrev pub AreRelay : List (List ℕ) → List ℕ → ℕ → ℕ → ℕ → ℕ → Type 0
AreRelay words host upport port room requests =
    (upport_word : List ℕ) × (port_word : List ℕ) × (room_word : List ℕ) × (requests_word : List ℕ)
    × (words ≡ codes "relay" ∷ host ∷ upport_word ∷ port_word ∷ room_word ∷ requests_word ∷ [])
    × IsTrue (is_host host) × IsNumber most_port upport_word upport × IsNumber most_port port_word port × IsNumber most_room room_word room × IsNumber most_links requests_word requests

-- the word of a kind that is fetched
abbrev pub IsKindWord : List ℕ → Kind → Type 0
IsKindWord word kinds.Dds = word ≡ codes "dds"
IsKindWord word kinds.Das = word ≡ codes "das"
IsKindWord word kinds.Dods = word ≡ codes "dods"
IsKindWord word kinds.Ver = ⊥

-- `fetch`, a word, a kind and 1 to 16 constraints
abbrev pub HaveFetchForm : List (List ℕ) → List ℕ → Kind → List (List ℕ) → Type 0
HaveFetchForm words url kind ces =
    (word : List ℕ) × (words ≡ codes "fetch" ∷ url ∷ word ∷ ces) × IsKindWord word kind × (1 ≤ length ces) × (length ces ≤ most_constraints)

-- `fetch URL KIND CE [CE ..]`
abbrev pub AreFetch : List (List ℕ) → UrlParts → Kind → List (List ℕ) → Type 0
AreFetch words u kind ces = (url : List ℕ) × HaveFetchForm words url kind ces × (url_of url ≡ Some u)

-- `fetch` of some URL
abbrev pub IsFetch : List (List ℕ) → Type 0
IsFetch words = (u : UrlParts) × (kind : Kind) × (ces : List (List ℕ)) × AreFetch words u kind ces

-- `serve` with some numbers
abbrev pub IsServe : List (List ℕ) → Type 0
IsServe words = (port : ℕ) × (workers : ℕ) × (requests : ℕ) × AreServe words port workers requests

-- `soak` with some numbers
abbrev pub IsSoak : List (List ℕ) → Type 0
IsSoak words = (start : ℕ) × (records : ℕ) × AreSoak words start records

-- `relay` with a host and some numbers
abbrev pub IsRelay : List (List ℕ) → Type 0
IsRelay words = (host : List ℕ) × (upport : ℕ) × (port : ℕ) × (room : ℕ) × (requests : ℕ) × AreRelay words host upport port room requests

-- `save`
abbrev pub IsSave : List (List ℕ) → Type 0
IsSave words = words ≡ codes "save" ∷ []

-- `save`, a word and a constraint
abbrev pub HaveSaveForm : List (List ℕ) → List ℕ → List ℕ → Type 0
HaveSaveForm words url ce = words ≡ codes "save" ∷ url ∷ ce ∷ []

-- `save URL CE`
abbrev pub AreSaveUrl : List (List ℕ) → UrlParts → List ℕ → Type 0
AreSaveUrl words u ce = (url : List ℕ) × HaveSaveForm words url ce × (url_of url ≡ Some u)

-- `save` of some URL
abbrev pub IsSaveUrl : List (List ℕ) → Type 0
IsSaveUrl words = (u : UrlParts) × (ce : List ℕ) × AreSaveUrl words u ce

abbrev pub IsCommand : List (List ℕ) → Type 0
IsCommand words = ((target : List ℕ) × (workers : ℕ) × AreAnswer words target workers) ⊎ (IsShow words ⊎ (IsServe words ⊎ (IsVer words ⊎ (IsFetch words ⊎ (IsSoak words ⊎ (IsRelay words ⊎ (IsSave words ⊎ IsSaveUrl words)))))))

-- what the words ask for
abbrev pub Reads : List (List ℕ) → Command → Type 0
Reads words (Answer target workers) = AreAnswer words target.now workers × (1 ≤ workers) × (workers ≤ most_workers)
Reads words Show = IsShow words
Reads words (Serve port workers requests) = AreServe words port workers requests
Reads words Ver = IsVer words
Reads words (Soak start records) = AreSoak words start records
Reads words (Fetch url kind ces) = HaveFetchForm words url.now kind ces.now
Reads words (Relay host upport port room requests) = AreRelay words host.now upport port room requests
Reads words Save = IsSave words
Reads words (SaveUrl url ce) = HaveSaveForm words url.now ce.now
Reads words Other = ¬ (IsCommand words)
