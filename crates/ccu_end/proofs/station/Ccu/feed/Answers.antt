use Rattle.std.proofs.Common.{◌<◌, IfSome, sym, subst, arith, rules}
use Rattle.std.proofs.lemmas.List.Elements.{All-take, All-drop}
use Rattle.trau_bits.specs.Bits.{AreBits}
use Rattle.ccu_end.specs.Found.{HaveBits}
use Rattle.ccu_end.specs.Heard.{frames_of}
use Rattle.frame_sync.proofs.Kept.{second_period}
use Rattle.ccu_end.proofs.Waits.{last-bits}
use Rattle.ccu_end.proofs.Periods.{stands-next}
use Rattle.ccu_end.proofs.station.Ccu.feed.Goals as goal

pub returns-clause-last : goal.returns-clause-last
returns-clause-last c =
    second_period c.self.inside.last _ c.two_periods-window.result c.args.octets.now (search rules) c.told-octets c.two_periods-window.ensures.value
    c.copy_from_slice.ensures.after

pub returns-clause-history : goal.returns-clause-history
returns-clause-history c =
    stands-next c.args.self.now _ c.args.octets.now _ c.told-octets
    (record {
      frames = search rules;
      low = search rules;
      counted = search rules;
      last = returns-clause-last c;
      want = search rules;
      waiting = search rules;
      answer = search rules;
    })

pub answer_with-self-inside-requires-clause-bits : goal.answer_with-self-inside-requires-clause-bits
answer_with-self-inside-requires-clause-bits c =
    subst (λ x. IfSome x HaveBits) (sym c.last_of-last.ensures)
    (last-bits (frames_of c.take_period-heard.result) c.take_period-heard.ensures.are_bits)

pub invariant_of-self : goal.invariant_of-self
invariant_of-self c =
    let near = c.take_period-heard.ensures.near in (
      omega (arith, c.from.ensures),
      subst AreBits (sym c.copy_from_slice.ensures.after)
          (All-take (λ bit. bit < 2) 320 _
          (All-drop (λ bit. bit < 2) 320 c.two_periods-window.result (c.two_periods-window.ensures.are_bits c.self.invariant.1))),
    )
