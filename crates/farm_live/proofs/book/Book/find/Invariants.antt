use Rattle.std.proofs.Common.{◌≡◌, drop, find}
use Rattle.farm_live.specs.Book.{is_of_post}
use Rattle.farm_live.proofs.book.Book.find.Given as goal

-- none of the entries so far
abbrev pub invariant-loop-k : goal.invariant-loop-k
invariant-loop-k l = find (is_of_post l.caller l.number) (drop l.k l.self.history) ≡ find (is_of_post l.caller l.number) l.self.history
