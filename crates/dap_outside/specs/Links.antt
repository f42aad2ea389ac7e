-- What a link tells of itself (a connection of TCP, RFC 9293, or one in memory).
use Rattle.std.specs.Prelude.{◌≡◌, ℕ, Bool, false, List, [], Option}
use Rattle.std.specs.Option.{option_map}

-- what a link tells, and how often it failed
pub record LinkState : Type 0 where
  pub whole : Option (List ℕ)
  pub left : Option (List ℕ)
  pub ended : Bool
  pub written : Option (List ℕ)
  pub take_faults : ℕ
  pub put_faults : ℕ

-- as it comes in or is connected: nothing was taken or written, and nothing failed
pub record IsNew (l : LinkState) : Type 0 where
  pub all_left : l.left ≡ l.whole
  pub going : l.ended ≡ false
  pub none_written : l.written ≡ option_map (λ _. []) l.written
  pub takes : l.take_faults ≡ 0
  pub puts : l.put_faults ≡ 0
