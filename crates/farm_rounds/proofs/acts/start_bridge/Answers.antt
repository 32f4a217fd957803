use Rattle.std.proofs.Common.{◌≡◌, ◌<◌, sym, ap, ◌∙◌, subst, length, Some, Option, ℕ, arith}
use Rattle.std.proofs.lemmas.List.Elements.{All-get_or}
use Rattle.call_pair.specs.declared.call_job.Phase.TheVariants.{First}
use Rattle.farm_rounds.specs.declared.open.OpenCall.{OpenCall}
use Rattle.farm_rounds.specs.Calls.{Call}
use Rattle.farm_rounds.specs.Acts.{bridged_call}
use Rattle.farm_rounds.specs.Opens.{opens_in, kept_of, IsOpenCall}
use Rattle.farm_rounds.specs.Opened.{open_at, no_open}
use Rattle.farm_rounds.proofs.Places.Boxes.{at_read, opens_long}
use Rattle.farm_rounds.proofs.Orders.InPlace.{changed_at}
use Rattle.farm_rounds.proofs.Orders.Acts.{kept_with, listed_within}
use Rattle.farm_rounds.proofs.acts.start_bridge.Goals as goal

pub bounds-calls-index_of : goal.bounds-calls-index_of
bounds-calls-index_of c = listed_within c.args.calls.now c.args.live.now c.index_of.result c.requires.listed c.index_of.ensures.within

pub start_bridge-requires : goal.start_bridge-requires
start_bridge-requires c =
    let calls = c.args.calls.now in
    let k = c.index_of.result in
    let within : k < length calls = listed_within calls c.args.live.now k c.requires.listed c.index_of.ensures.within in
    let own : c.deref_mut.result.now ≡ open_at calls k = c.deref_mut.ensures.value ∙ at_read calls k _ within in
    subst (λ (o : OpenCall). o.job.phase ≡ First) (sym own)
    (All-get_or (λ o. o.job.phase ≡ First) (opens_in calls) k no_open (omega (arith, within, opens_long calls)) c.requires.listed.first)

pub returns : goal.returns
returns c =
    let calls = c.args.calls.now in
    let k = c.index_of.result in
    let within : k < length calls = listed_within calls c.args.live.now k c.requires.listed c.index_of.ensures.within in
    let own : c.deref_mut.result.now ≡ open_at calls k = c.deref_mut.ensures.value ∙ at_read calls k _ within in
    let new = c.start_bridge.new.self in
    let partner = Some c.args.partner in
    let called = c.start_bridge.ensures.call ∙ ap (λ (o : OpenCall). bridged_call (kept_of o).call) own in
    changed_at calls c.args.live.now k c.args.call _ (λ x. kept_with (bridged_call x.call) partner) c.requires.listed within c.index_of.ensures.within
    c.index_of.ensures.number
    (ap (λ (x : Call). kept_with x new.partner) called ∙ ap (λ (p : Option ℕ). kept_with (bridged_call (kept_of (open_at calls k)).call) p) c.start_bridge.ensures.partner)
    (ap (λ (x : Call). x.number) called)
    (λ most sound. c.start_bridge.ensures.kept most (subst (IsOpenCall most) (sym own) sound))
    (λ most all. All-get_or (IsOpenCall most) (opens_in calls) k no_open (omega (arith, within, opens_long calls)) all)
