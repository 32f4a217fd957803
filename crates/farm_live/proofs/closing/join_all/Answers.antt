use Rattle.std.proofs.Common.{◌≡◌, ◌++◌, ◌∷◌, [], List, length, reverse, sym, ap, ◌∙◌, subst, append-nil, arith}
use Rattle.trau_num.proofs.Lists.{no_items}
use Rattle.farm_live.specs.declared.live.Caller.{Caller}
use Rattle.farm_live.specs.Live.{IsSeated}
use Rattle.farm_live.specs.Closing.{AreJoined, AreAllSeated}
use Rattle.farm_live.proofs.Joining.{popped, all_at, turned_round}
use Rattle.farm_live.proofs.closing.join_all.Goals as goal

pub loop-other-init : goal.loop-other-init
loop-other-init c = (
  [],
  sym (append-nil c.args.others.items),
  λ inbox cs joined seated. subst (λ (l : List Caller). AreJoined inbox c.args.slots.now l c.args.first.now.seats.items) (sym (append-nil cs)) joined,
)

pub join-requires : goal.join-requires
join-requires c =
    let r = c.requires in
    let inv = c.loop-other.invariant in
    let new = c.pop.new.self.items in
    let whole = popped new inv.0 c.args.others.items c.loop-other.others.items c.in-Some.other inv.1 c.in-Some.ensures.items in (
      r.0,
      r.1 ++ reverse inv.0,
      inv.2 r.0 r.1 r.2 r.3,
      all_at (IsSeated r.0 c.args.slots.now) new inv.0 c.in-Some.other
          (subst (AreAllSeated r.0 c.args.slots.now) whole r.3),
    )

pub loop-other-preserved : goal.loop-other-preserved
loop-other-preserved c =
    let inv = c.loop-other.invariant in
    let slots = c.args.slots.now in
    let new = c.pop.new.self.items in
    let u = c.in-Some.other in
    let whole = popped new inv.0 c.args.others.items c.loop-other.others.items u inv.1 c.in-Some.ensures.items in (
      u ∷ inv.0,
      whole,
      λ inbox cs joined seated.
          subst (λ (l : List Caller). AreJoined inbox slots l c.join.new.first.seats.items) (turned_round cs inv.0 u)
          (c.join.ensures inbox (cs ++ reverse inv.0) (inv.2 inbox cs joined seated)
          (all_at (IsSeated inbox slots) new inv.0 u (subst (AreAllSeated inbox slots) whole seated))),
    )

pub returns : goal.returns
returns c = λ inbox cs joined seated.
    let inv = c.loop-other.invariant in
    let none : length c.loop-other.others.items ≡ 0 = omega (arith, c.in_default.ensures.cases.0, c.loop-other.others.ok.0) in
    let rest : inv.0 ≡ c.args.others.items = sym (inv.1 ∙ ap (λ l. l ++ inv.0) (no_items c.loop-other.others.items none)) in
    subst (λ (l : List Caller). AreJoined inbox c.args.slots.now (cs ++ reverse l) c.loop-other.first.seats.items) rest (inv.2 inbox cs joined seated)
