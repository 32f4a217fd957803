use Rattle.std.proofs.Common.{◌≡◌, ◌<◌, sym, ap, ◌∙◌, subst, rules}
use Rattle.std.proofs.lemmas.List.Elements.{All-take, All-drop}
use Rattle.trau_bits.specs.Bits.{AreBits}
use Rattle.frame_sync.specs.Step.{next_period}
use Rattle.frame_sync.proofs.Steps.{went-found, next_period-went, near-went, ends-went, carries-went, stands-next}
use Rattle.frame_sync.proofs.Kept.{second_period}
use Rattle.frame_sync.proofs.Order.{fed-of-all}
use Rattle.frame_sync.proofs.search.FrameSync.feed.Goals as goal

pub invariant_of-self : goal.invariant_of-self
invariant_of-self c = (
  near-went c.self.inside.periods c.from-base.result c.two_periods-window.result c.self.inside.mode (c.yield_of_ending.result, c.advance-ending.result.1)
      (went-found c.self.inside.periods c.from-base.result c.two_periods-window.result c.self.inside.mode c.advance-ending.result c.yield_of_ending.result
      c.from-base.ensures c.yield_of_ending.ensures c.advance-ending.ensures.value) c.self.invariant.0,
  subst AreBits (sym c.copy_from_slice.ensures.after)
      (All-take (λ bit. bit < 2) 320 _
      (All-drop (λ bit. bit < 2) 320 c.two_periods-window.result (c.two_periods-window.ensures.are_bits c.self.invariant.1))),
)

pub returns-clause-step : goal.returns-clause-step
returns-clause-step c =
    ap (λ memory. next_period memory c.args.octets.now) (sym c.self.view_is) ∙
    next_period-went c.self.inside.periods c.from-base.result c.self.inside.last _ c.two_periods-window.result c.args.octets.now c.self.inside.mode
    (c.yield_of_ending.result, c.advance-ending.result.1)
    (went-found c.self.inside.periods c.from-base.result c.two_periods-window.result c.self.inside.mode c.advance-ending.result c.yield_of_ending.result
    c.from-base.ensures c.yield_of_ending.ensures c.advance-ending.ensures.value)
    (second_period c.self.inside.last _ c.two_periods-window.result c.args.octets.now (search rules) c.told-octets c.two_periods-window.ensures.value
    c.copy_from_slice.ensures.after)
    c.two_periods-window.ensures.value

pub returns-clause-history : goal.returns-clause-history
returns-clause-history c = stands-next c.args.self.now _ c.args.octets.now c.yield_of_ending.result c.told-octets (returns-clause-step c)

pub returns-clause-whole : goal.returns-clause-whole
returns-clause-whole c = fed-of-all c.args.self.now _ c.args.octets.now c.yield_of_ending.result c.told-octets (returns-clause-step c)

pub returns-clause-frame : goal.returns-clause-frame
returns-clause-frame c =
    carries-went c.self.inside.periods c.from-base.result c.two_periods-window.result c.self.inside.mode (c.yield_of_ending.result, c.advance-ending.result.1)
    (went-found c.self.inside.periods c.from-base.result c.two_periods-window.result c.self.inside.mode c.advance-ending.result c.yield_of_ending.result
    c.from-base.ensures c.yield_of_ending.ensures c.advance-ending.ensures.value)
    (c.two_periods-window.ensures.are_bits c.self.invariant.1)

pub returns-clause-place : goal.returns-clause-place
returns-clause-place c =
    let count : c.self.inside.periods ≡ c.args.self.now.periods = ap (λ memory. memory.periods) c.self.view_is in
    ends-went c.args.self.now.periods c.from-base.result c.two_periods-window.result c.self.inside.mode (c.yield_of_ending.result, c.advance-ending.result.1)
    (went-found c.args.self.now.periods c.from-base.result c.two_periods-window.result c.self.inside.mode c.advance-ending.result c.yield_of_ending.result
    (c.from-base.ensures ∙ count) c.yield_of_ending.ensures c.advance-ending.ensures.value) (search rules)
