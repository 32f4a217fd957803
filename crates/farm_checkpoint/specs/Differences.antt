-- How two lists of calls differ.
use Rattle.std.specs.Prelude.{ℕ, ◌<◌, ◌≡◌, ◌≢◌, ◌==◌, List, Option}
use Rattle.std.specs.List.{find}
use Rattle.std.proofs.Common.{get_or}
use Rattle.farm_checkpoint.specs.declared.mark.MarkCall.{MarkCall}

-- the entry with a call's number, if there is one
abbrev pub entry_of : List MarkCall → ℕ → Option MarkCall
entry_of calls c = find (λ entry. entry.call == c) calls

-- the least number whose entries differ, or that only one list has
pub record IsLeastDifference (one other : List MarkCall) (c : ℕ) : Type 0 where
  pub differs : entry_of one c ≢ entry_of other c
  pub least : (d : ℕ) → d < c → entry_of one d ≡ entry_of other d

-- both lists have an entry at this index, and the two differ
abbrev pub DifferAt : List MarkCall → List MarkCall → ℕ → Type 0
DifferAt one other k = (d : MarkCall) → get_or one k d ≢ get_or other k d
