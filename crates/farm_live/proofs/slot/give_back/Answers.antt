use Rattle.std.proofs.Common.{sym, subst}
use Rattle.crossbeam_queue.specs.Fifo.{Pushes}
use Rattle.crossbeam_queue.specs.Passes.{view, ruled_capacity}
use Rattle.farm_live.specs.declared.slot.View.{View}
use Rattle.farm_live.specs.declared.slot.Token.TheVariants.{Here}
use Rattle.farm_live.specs.Slot.{IsSlot, Gave}
use Rattle.farm_live.proofs.Slots.{gives, finds_mark}
use Rattle.farm_live.proofs.slot.give_back.Goals as goal

pub force_push_as-requires-clause-push : goal.force_push_as-requires-clause-push
force_push_as-requires-clause-push g c = let push = gives (ruled_capacity c.args.slot.now) c.args.me.now.id (view c.args.me.now) c.args.book c.requires.held
    c.requires.may in (
      push,
      λ old w same. subst (λ (u : View). Pushes IsSlot (ruled_capacity c.args.slot.now) c.args.me.now.id u (Here c.args.book) (Gave u (Here c.args.book)))
          (sym same) push,
    )

pub force_push_as-requires-clause-pop : goal.force_push_as-requires-clause-pop
force_push_as-requires-clause-pop g c = finds_mark _ _ _ c.requires.held
