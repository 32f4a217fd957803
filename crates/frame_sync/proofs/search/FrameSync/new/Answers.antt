use Rattle.std.proofs.Common.{◌≡◌, ◌<◌, length, refl, arith}
use Rattle.std.proofs.lemmas.List.Elements.{All-nil, All-replicate}
use Rattle.frame_sync.specs.Periods.{mode_after}
use Rattle.frame_sync.specs.Stands.{last_bits}
use Rattle.frame_sync.proofs.search.FrameSync.new.Goals as goal

pub returns-clause-history : goal.returns-clause-history
unfolding mode_after last_bits
returns-clause-history c = record { periods = All-nil (λ o. length o ≡ 40); after = refl }

pub invariant_of-result : goal.invariant_of-result
invariant_of-result c = ((omega arith, omega arith, omega arith), All-replicate (λ bit. bit < 2) 320 0 (omega arith))
