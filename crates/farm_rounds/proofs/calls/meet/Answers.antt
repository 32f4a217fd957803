use Rattle.std.proofs.Common.{◌≡◌, ◌<◌, sym, ap, ◌∙◌, List, length, arith}
use Rattle.std.specs.Global.{Box}
use Rattle.call_pair.specs.Phases.{periods_left}
use Rattle.farm_rounds.specs.declared.open.OpenCall.{OpenCall}
use Rattle.farm_rounds.specs.Opened.{open_at}
use Rattle.farm_rounds.proofs.Places.Boxes.{front_read, back_long, back_read, front_set, front_other, back_set, back_other, heard_same, told_same}
use Rattle.farm_rounds.proofs.calls.meet.Goals as goal

-- ---- the call stands before its partner

pub hear_from-requires : goal.hear_from-requires
hear_from-requires c =
    let calls = c.args.calls.now in
    let low = c.split_at_mut-low.result.0.now in
    let high = c.split_at_mut-low.result.1.now in
    let parts = c.split_at_mut-low.ensures.value in
    let long = c.split_at_mut-low.ensures.front_len in
    let less : c.args.at < length low = omega (arith, long, c.if-at-from.true) in
    let own : c.deref_mut.result.now ≡ open_at calls c.args.at = front_read calls low high c.args.at _ _ parts less c.deref_mut.ensures.value in
    let other : c.deref.result.now ≡ open_at calls c.args.from = back_read calls low high c.args.from _ _ parts long c.requires.from c.deref.ensures in
    record {
      first = ap (λ (o : OpenCall). o.job.phase) own ∙ c.requires.first;
      finished = ap (λ (o : OpenCall). periods_left o.job) own ∙ c.requires.finished;
      told = told_same _ _ _ _ own other c.requires.told;
      none = ap (λ (o : OpenCall). o.job.partner) own ∙ c.requires.none;
    }

pub returns-then-at-from-clause-heard : goal.returns-then-at-from-clause-heard
returns-then-at-from-clause-heard c =
    let calls = c.args.calls.now in
    let low = c.split_at_mut-low.result.0.now in
    let high = c.split_at_mut-low.result.1.now in
    let parts = c.split_at_mut-low.ensures.value in
    let long = c.split_at_mut-low.ensures.front_len in
    let less : c.args.at < length low = omega (arith, long, c.if-at-from.true) in
    let own : c.deref_mut.result.now ≡ open_at calls c.args.at = front_read calls low high c.args.at _ _ parts less c.deref_mut.ensures.value in
    let other : c.deref.result.now ≡ open_at calls c.args.from = back_read calls low high c.args.from _ _ parts long c.requires.from c.deref.ensures in
    front_set low high c.args.at _ less ∙ heard_same _ _ _ _ _ c.hear_from.ensures own other

pub returns-then-at-from-clause-others : goal.returns-then-at-from-clause-others
returns-then-at-from-clause-others c k ne =
    front_other c.split_at_mut-low.result.0.now c.split_at_mut-low.result.1.now c.args.at k _ ne
    ∙ ap (λ (xs : List (Box OpenCall)). open_at xs k) (sym c.split_at_mut-low.ensures.value)

-- ---- it stands behind it

pub hear_from-requires-else-at-from : goal.hear_from-requires-else-at-from
hear_from-requires-else-at-from c =
    let calls = c.args.calls.now in
    let low = c.split_at_mut-low-else-at-from.result.0.now in
    let high = c.split_at_mut-low-else-at-from.result.1.now in
    let parts = c.split_at_mut-low-else-at-from.ensures.value in
    let long = c.split_at_mut-low-else-at-from.ensures.front_len in
    let less : c.args.from < length low = omega (arith, long, c.if-at-from.false, c.requires.apart) in
    let own : c.deref_mut-else-at-from.result.now ≡ open_at calls c.args.at = back_read calls low high c.args.at _ _ parts long c.requires.at c.deref_mut-else-at-from.ensures.value in
    let other : c.deref-else-at-from.result.now ≡ open_at calls c.args.from = front_read calls low high c.args.from _ _ parts less c.deref-else-at-from.ensures in
    record {
      first = ap (λ (o : OpenCall). o.job.phase) own ∙ c.requires.first;
      finished = ap (λ (o : OpenCall). periods_left o.job) own ∙ c.requires.finished;
      told = told_same _ _ _ _ own other c.requires.told;
      none = ap (λ (o : OpenCall). o.job.partner) own ∙ c.requires.none;
    }

pub returns-else-at-from-clause-heard : goal.returns-else-at-from-clause-heard
returns-else-at-from-clause-heard c =
    let calls = c.args.calls.now in
    let low = c.split_at_mut-low-else-at-from.result.0.now in
    let high = c.split_at_mut-low-else-at-from.result.1.now in
    let parts = c.split_at_mut-low-else-at-from.ensures.value in
    let long = c.split_at_mut-low-else-at-from.ensures.front_len in
    let less : c.args.from < length low = omega (arith, long, c.if-at-from.false, c.requires.apart) in
    let own : c.deref_mut-else-at-from.result.now ≡ open_at calls c.args.at = back_read calls low high c.args.at _ _ parts long c.requires.at c.deref_mut-else-at-from.ensures.value in
    let other : c.deref-else-at-from.result.now ≡ open_at calls c.args.from = front_read calls low high c.args.from _ _ parts less c.deref-else-at-from.ensures in
    back_set low high c.args.at _ long (back_long calls low high c.args.at parts long c.requires.at)
    ∙ heard_same _ _ _ _ _ c.hear_from-else-at-from.ensures own other

pub returns-else-at-from-clause-others : goal.returns-else-at-from-clause-others
returns-else-at-from-clause-others c k ne =
    back_other c.split_at_mut-low-else-at-from.result.0.now c.split_at_mut-low-else-at-from.result.1.now c.args.at k _
    c.split_at_mut-low-else-at-from.ensures.front_len ne
    ∙ ap (λ (xs : List (Box OpenCall)). open_at xs k) (sym c.split_at_mut-low-else-at-from.ensures.value)
