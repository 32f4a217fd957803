use Rattle.trau_frame.specs.Match.{bit_in}
use Rattle.trau_frame.proofs.Matches.{match_zeros, match_ones, match_from}
use Rattle.ccu_end.proofs.hunt.matches_at.Goals as goal

pub returns-then-zeros_match : goal.returns-then-zeros_match
returns-then-zeros_match c = (
  λ t. match_from (bit_in c.args.window.now) c.args.o (c.zeros_match.ensures.0 c.if-zeros_match.true) (c.ones_match.ensures.0 t),
  λ m. c.ones_match.ensures.1 (match_ones (bit_in c.args.window.now) c.args.o m),
)

pub returns-else-zeros_match : goal.returns-else-zeros_match
returns-else-zeros_match c = (
  λ t. let f = c.if-zeros_match.false in absurd (cc),
  λ m. c.zeros_match.ensures.1 (match_zeros (bit_in c.args.window.now) c.args.o m),
)
