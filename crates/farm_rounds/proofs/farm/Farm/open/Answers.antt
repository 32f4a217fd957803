use Rattle.std.proofs.Common.{◌≡◌, false, ◌∙◌, ap, sym, subst, List, ℕ, Result, Ok, Err}
use Rattle.std.specs.Prelude.{IfOk, IfErr}
use Rattle.std.specs.Global.{Box}
use Rattle.trau_io.specs.declared.line.Side.{Side}
use Rattle.switchboard.specs.declared.act.Act.TheVariants as act
use Rattle.farm_rounds.specs.declared.open.OpenCall.{OpenCall}
use Rattle.farm_rounds.specs.Memory.{FarmMemory}
use Rattle.farm_rounds.specs.Acts.{ActFits, Applied}
use Rattle.farm_rounds.specs.Opens.{calls_of, AreMutual}
use Rattle.farm_rounds.proofs.Places.Empty.{make_farm}
use Rattle.farm_rounds.specs.Failed.{is_listed, AreFailed}
use Rattle.farm_rounds.proofs.Failed.Acts.{known_after}
use Rattle.farm_rounds.proofs.farm.Farm.open.Goals as goal

pub open-requires-clause-sound : goal.open-requires-clause-sound
open-requires-clause-sound c = (c.self.inside.calls.ended, c.self.invariant.0)

pub open-requires-clause-fits : goal.open-requires-clause-fits
open-requires-clause-fits c = subst (λ (f : FarmMemory). ActFits f.calls (act.Opened c.args.call c.args.law)) (sym c.self.view_is) c.requires.fits

either_way : {T E : Type 0} (r : Result T E) (P Q R : Type 0) → (P → R) → (Q → R) → IfOk r (λ u. P) → IfErr r (λ e. Q) → R
either_way (Ok u) P Q R f g p q = f p
either_way (Err e) P Q R f g p q = g q

pub invariant_of-self : goal.invariant_of-self
invariant_of-self c =
    let lines = c.self.inside.calls.failed.items in
    let fresh = subst (λ (f : FarmMemory). (s : Side) → is_listed f.failed c.args.call s ≡ false) (sym c.self.view_is) c.requires.fresh in (
      c.open.ensures.sound c.self.inside.calls.ended c.self.invariant.0,
      c.self.invariant.1,
      either_way c.open.result _ _ _
          (λ p. known_after (act.Opened c.args.call c.args.law) lines (calls_of c.self.inside.calls.open.items) (calls_of c.open.new.calls.items) fresh p
          c.self.invariant.2)
          (λ p. subst (λ (bs : List (Box OpenCall)). AreFailed lines (calls_of bs)) (sym p) c.self.invariant.2) c.open.ensures.applied c.open.ensures.calls,
    )

pub returns-clause-before : goal.returns-clause-before
returns-clause-before c = subst (λ (f : FarmMemory). AreMutual f.calls) c.self.view_is c.self.invariant.0.both

pub returns-clause-applied : goal.returns-clause-applied
returns-clause-applied c =
    subst (λ (f : FarmMemory). IfOk c.open.result (λ u. Applied (act.Opened c.args.call c.args.law) f.calls (calls_of c.open.new.calls.items))) c.self.view_is
    c.open.ensures.applied

both_refused : {T E : Type 0} (r : Result T E) (P Q R : Type 0) → (P → Q → R) → IfErr r (λ e. P) → IfErr r (λ e. Q) → IfErr r (λ e. R)
both_refused (Ok u) P Q R f p q = p
both_refused (Err e) P Q R f p q = f p q

pub returns-clause-refused : goal.returns-clause-refused
returns-clause-refused c =
    both_refused c.open.result _ _ _
    (λ p q.
    ap (λ (bs : List (Box OpenCall)). make_farm bs c.open.new.live.items c.self.inside.calls.tallies.items c.self.inside.calls.failed.items c.self.inside.calls.ended) p
    ∙ ap (λ (ns : List ℕ). make_farm c.self.inside.calls.open.items ns c.self.inside.calls.tallies.items c.self.inside.calls.failed.items c.self.inside.calls.ended) q
    ∙ c.self.view_is) c.open.ensures.calls c.open.ensures.live

pub returns-clause-others : goal.returns-clause-others
returns-clause-others c = ap (λ (f : FarmMemory). record f { calls = calls_of c.open.new.calls.items; live = c.open.new.live.items }) c.self.view_is
