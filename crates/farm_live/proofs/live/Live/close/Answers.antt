use Rattle.std.proofs.Common.{◌∷◌, [], length, reverse, sym, ap, subst}
use Rattle.farm_live.specs.Live.{IsSeated}
use Rattle.farm_live.specs.Closing.{AreJoined, AreAllSeated, AreClosed}
use Rattle.farm_live.proofs.Joining.{all_at, all_front, first_joined, all_known}
use Rattle.farm_live.proofs.live.Live.close.Goals as goal

pub join_all-requires : goal.join_all-requires
join_all-requires g c =
    let inbox = c.args.self.inbox in
    let slots = c.args.self.slots.items in
    let all = c.in-Some.all in
    let others = c.pop.new.self.items in
    let seated = subst (AreAllSeated inbox slots) c.in-Some.ensures.items c.requires.farm in (
      inbox,
      all ∷ [],
      subst (λ xs. AreJoined inbox xs (all ∷ []) all.seats.items) (sym c.as_slice.ensures.value)
          (first_joined inbox slots all (all_at (IsSeated inbox slots) others [] all seated)),
      subst (λ xs. AreAllSeated inbox xs others) (sym c.as_slice.ensures.value) (all_front (IsSeated inbox slots) others (all ∷ []) seated),
    )

pub close_all-requires-clause-joined : goal.close_all-requires-clause-joined
close_all-requires-clause-joined g c = (
  c.args.self.inbox,
  reverse c.args.callers.items,
  all_known c.args.self.inbox c.args.self.slots.items c.as_slice.result.now c.as_slice-2.result.now c.args.callers.items c.pop.new.self.items c.in-Some.all
      c.join_all.new.first c.in-Some.ensures.items
      c.as_slice.ensures.value c.as_slice-2.ensures.value c.requires.farm c.join_all.ensures,
)

pub returns : goal.returns
returns g c =
    let joined = all_known c.args.self.inbox c.args.self.slots.items c.as_slice.result.now c.as_slice-2.result.now c.args.callers.items c.pop.new.self.items
    c.in-Some.all c.join_all.new.first c.in-Some.ensures.items
    c.as_slice.ensures.value c.as_slice-2.ensures.value c.requires.farm c.join_all.ensures in
    subst (λ n. AreClosed n (reverse c.args.callers.items) c.close_all.result.items) (ap length c.as_slice-2.ensures.value)
    (c.close_all.ensures c.args.self.inbox (reverse c.args.callers.items) joined)
