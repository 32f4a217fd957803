use Rattle.std.proofs.Common.{◌≡◌, ◌+◌, ◌<◌, ℕ, List, ◌++◌, length, Some, None, sym, ap, ◌∙◌, subst, inl, inr, arith, append-nil}
use Rattle.std.specs.Global.{Box}
use Rattle.std.specs.List.{filter_map}
use Rattle.std.proofs.lemmas.Bool.{cases_lt}
use Rattle.std.proofs.lemmas.List.{take_all}
use Rattle.std.proofs.lemmas.List.Elements.{All-from_get_or}
use Rattle.std.specs.Vec.{vec_len, vec_capacity}
use Rattle.round_lines.specs.Memory.{end_in_round}
use Rattle.round_lines.specs.Portions.{PortionMemory}
use Rattle.round_lines.specs.Rounds.{no_portion, portion_end}
use Rattle.round_lines.proofs.Listing.{listed_more}
use Rattle.farm_rounds.specs.declared.open.OpenCall.{OpenCall}
use Rattle.farm_rounds.specs.Opens.{opens_in, portions_of, portion_of_open}
use Rattle.farm_rounds.specs.Opened.{no_open, open_at, OctetsFit}
use Rattle.farm_rounds.proofs.Places.Boxes.{at_read, opens_long, portions_long}
use Rattle.farm_rounds.proofs.Places.Listed.{portion_listed}
use Rattle.farm_rounds.proofs.calls.list_ends.Goals as goal
use Rattle.farm_rounds.proofs.calls.list_ends.Goals.{in-Some, in_default}

pub end-requires : goal.end-requires
end-requires c =
    let calls = c.args.calls.now in
    let k = c.loop-call.call-index in
    let own = ap (λ (o : OpenCall). o.lines.periods) c.deref-in-loop-call.ensures in
    let here = ap (λ (s : PortionMemory). s.lines.periods) (portion_listed calls k c.call-item.result no_portion c.loop-call-test.true c.call-item.is) in
    let within = c.requires.within k (omega (arith, c.loop-call-test.true, portions_long calls)) in
    omega (arith, own, here, within)

pub loop-call-preserved : goal.loop-call-preserved
loop-call-preserved c =
    let i = c.loop-call.invariant in
    let calls = c.args.calls.now in
    let k = c.loop-call.call-index in
    let portion = portion_of_open c.call-item.result.value in
    let less : k < length (portions_of calls) = omega (arith, c.loop-call-test.true, portions_long calls) in
    let here = portion_listed calls k c.call-item.result portion c.loop-call-test.true c.call-item.is in
    let all : (j : ℕ) → j < k + 1 → OctetsFit (open_at calls j) = λ j l. elim (cases_lt j k) [
      | inl b ↦ i.sound j b
      | inr b ↦
          let same : k ≡ j = omega (arith, l, b) in
          let own : c.deref.result.now ≡ open_at calls k = c.deref.ensures ∙ ap (λ (x : Box OpenCall). x.value) c.call-item.is
          ∙ at_read calls k c.call-item.result c.loop-call-test.true in
          subst (λ (n : ℕ). OctetsFit (open_at calls n)) same (subst OctetsFit own (c.octets_fit.ensures.io, c.octets_fit.ensures.came))
    ] in
    let is = sym (c.end.ensures ∙ ap (λ (o : OpenCall). end_in_round c.args.start o.lines) c.deref-in-loop-call.ensures) in
    elim c.match-end.branch [
      | in-Some w ↦ record {
        listed = ap (λ v. v.items) w.ends-is ∙ w.push_reserved.ensures.items
            ∙ listed_more (portion_end c.args.start) (portions_of calls) k _ _ portion (Some w.in-Some.end) less here (is ∙ w.in-Some.is) i.listed;
        few = omega (arith, ap vec_len w.ends-is, w.push_reserved.ensures.len, i.few);
        room = ap vec_capacity w.ends-is ∙ w.push_reserved.ensures.capacity ∙ i.room;
        sound = all;
      }
      | in_default w ↦ record {
        listed = ap (λ v. v.items) w.ends-is ∙ sym (append-nil _)
            ∙ listed_more (portion_end c.args.start) (portions_of calls) k _ _ portion None less here (is ∙ w.in_default.is) i.listed;
        few = omega (arith, ap vec_len w.ends-is, i.few);
        room = ap vec_capacity w.ends-is ∙ i.room;
        sound = all;
      }
    ]

pub returns-clause-listed : goal.returns-clause-listed
returns-clause-listed c =
    let calls = c.args.calls.now in
    c.loop-call.invariant.listed ∙ ap (λ (ss : List PortionMemory). c.args.ends.now.items ++ filter_map (portion_end c.args.start) ss)
    (take_all c.loop-call.call-index (portions_of calls) (omega (arith, portions_long calls, c.loop-call-test.false)))

pub returns-clause-sound : goal.returns-clause-sound
returns-clause-sound c =
    All-from_get_or OctetsFit (opens_in c.args.calls.now) no_open (λ k l. c.loop-call.invariant.sound k (omega (arith, l, opens_long c.args.calls.now, c.loop-call-test.false)))
