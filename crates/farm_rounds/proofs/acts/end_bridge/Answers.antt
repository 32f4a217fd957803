use Rattle.std.proofs.Common.{◌≡◌, ◌∙◌, ap, None}
use Rattle.farm_rounds.specs.Calls.{Call}
use Rattle.farm_rounds.specs.Acts.{parted_call}
use Rattle.farm_rounds.specs.Opened.{open_at}
use Rattle.farm_rounds.proofs.Places.Boxes.{at_read}
use Rattle.farm_rounds.proofs.Orders.Acts.{kept_with, kept_same, listed_within, first_at, up_at, down_at, changed_there}
use Rattle.farm_rounds.proofs.Places.Placed.{paired_at}
use Rattle.farm_rounds.proofs.acts.end_bridge.Goals as goal

pub bounds-calls-index_of : goal.bounds-calls-index_of
bounds-calls-index_of c = listed_within c.args.calls.now c.args.live.now c.index_of.result c.requires.listed c.index_of.ensures.within

pub end_bridge-requires-clause-first : goal.end_bridge-requires-clause-first
end_bridge-requires-clause-first c =
    let calls = c.args.calls.now in
    let k = c.index_of.result in
    first_at calls c.args.live.now k _ c.requires.listed c.index_of.ensures.within
    (c.deref_mut.ensures.value ∙ at_read calls k _ (listed_within calls c.args.live.now k c.requires.listed c.index_of.ensures.within))

pub end_bridge-requires-clause-up : goal.end_bridge-requires-clause-up
end_bridge-requires-clause-up c =
    let calls = c.args.calls.now in
    let live = c.args.live.now in
    let k = c.index_of.result in
    let own : c.deref_mut.result.now ≡ open_at calls k =
    c.deref_mut.ensures.value ∙ at_read calls k _ (listed_within calls live k c.requires.listed c.index_of.ensures.within) in
    up_at calls live k _ c.requires.listed c.index_of.ensures.within own
    (paired_at live calls k c.args.call _ c.requires.listed.listed c.requires.listed.rising c.index_of.ensures.within c.index_of.ensures.number own
    ∙ c.requires.partner)

pub end_bridge-requires-clause-down : goal.end_bridge-requires-clause-down
end_bridge-requires-clause-down c =
    let calls = c.args.calls.now in
    let live = c.args.live.now in
    let k = c.index_of.result in
    let own : c.deref_mut.result.now ≡ open_at calls k =
    c.deref_mut.ensures.value ∙ at_read calls k _ (listed_within calls live k c.requires.listed c.index_of.ensures.within) in
    down_at calls live k _ c.requires.listed c.index_of.ensures.within own
    (paired_at live calls k c.args.call _ c.requires.listed.listed c.requires.listed.rising c.index_of.ensures.within c.index_of.ensures.number own
    ∙ c.requires.partner)

pub returns : goal.returns
returns c =
    let calls = c.args.calls.now in
    let k = c.index_of.result in
    changed_there calls c.args.live.now k c.args.call _ _ (λ x. kept_with (parted_call x.call) None) c.requires.listed
    c.index_of.ensures.within c.index_of.ensures.number
    (c.deref_mut.ensures.value ∙ at_read calls k _ (listed_within calls c.args.live.now k c.requires.listed c.index_of.ensures.within))
    (kept_same _ _ _ _ c.end_bridge.ensures.call c.end_bridge.ensures.partner) (ap (λ (x : Call). x.number) c.end_bridge.ensures.call) c.end_bridge.ensures.kept
