-- What the open calls know of their lines, whatever an act does.
use Rattle.std.proofs.Common.{◌≡◌, refl, sym, ◌∙◌, subst, ℕ, Option, Some, None, List, [], arith, inl, inr}
use Rattle.std.specs.Prelude.{◌==◌}
use Rattle.std.specs.Option.{option_map}
use Rattle.std.specs.Global.{Box}
use Rattle.std.proofs.lemmas.Bool.{eqb-true, cases_Bool}
use Rattle.std.proofs.lemmas.Option.{same_Some}
use Rattle.trau_io.specs.declared.line.Line.{Line}
use Rattle.trau_io.specs.declared.line.Side.TheVariants.{Up, Pcm, Down, Out}
use Rattle.switchboard.specs.declared.act.Act.{Act}
use Rattle.switchboard.specs.declared.act.Act.TheVariants as act
use Rattle.farm_rounds.specs.declared.open.OpenCall.{OpenCall}
use Rattle.farm_rounds.specs.Calls.{Call, Kept, call_in}
use Rattle.farm_rounds.specs.Acts.{new_call, parted_call, bridged_call, set_by, put_at, change_at, change_partner, calls_after, Applied}
use Rattle.farm_rounds.specs.Failed.{KnowsLines, AreFailed, NoneListed}
use Rattle.farm_rounds.specs.Opens.{calls_of}

none_some : {x : Call} → None ≡ Some x → ⊥
none_some e = cc

module _ (lines : List Line) where
  abbrev KnowAll : (ℕ → Option Call) → Type 0
  KnowAll f = (c : ℕ) (x : Call) → f c ≡ Some x → KnowsLines lines c x

  mapped : (g : Call → Call) (c : ℕ) (o : Option Call) (x : Call) → ((y : Call) → KnowsLines lines c y → KnowsLines lines c (g y)) →
      ((y : Call) → o ≡ Some y → KnowsLines lines c y) → option_map g o ≡ Some x → KnowsLines lines c x
  mapped g c None x keeps h e = absurd (none_some e)
  mapped g c (Some y) x keeps h e = subst (KnowsLines lines c) (same_Some (g y) x e) (keeps y (h y refl))

  know_changed : (d : ℕ) (g : Call → Call) (f : ℕ → Option Call) →
      ((c : ℕ) (y : Call) → KnowsLines lines c y → KnowsLines lines c (g y)) → KnowAll f → KnowAll (change_at d g f)
  know_changed d g f keeps h c x e = elim (cases_Bool (c == d)) [
    | inl t ↦ let q : option_map g (f c) ≡ Some x = simp t at e in mapped g c (f c) x (keeps c) (h c) q
    | inr n ↦ let q : f c ≡ Some x = simp n at e in h c x q
  ]

  know_gone : (d : ℕ) (f : ℕ → Option Call) → KnowAll f → KnowAll (put_at d None f)
  know_gone d f h c x e = elim (cases_Bool (c == d)) [
    | inl t ↦ let q : None ≡ Some x = simp t at e in absurd (none_some q)
    | inr n ↦ let q : f c ≡ Some x = simp n at e in h c x q
  ]

  know_new : (d : ℕ) (f : ℕ → Option Call) (y : Call) → KnowsLines lines d y → KnowAll f → KnowAll (put_at d (Some y) f)
  know_new d f y k h c x e = elim (cases_Bool (c == d)) [
    | inl t ↦
        let q : Some y ≡ Some x = simp t at e in
        subst (λ (n : ℕ). KnowsLines lines n x) (sym (eqb-true c d t)) (subst (KnowsLines lines d) (same_Some y x q) k)
    | inr n ↦ let q : f c ≡ Some x = simp n at e in h c x q
  ]

  know_freed : (p : Option ℕ) (f : ℕ → Option Call) → KnowAll f → KnowAll (change_partner p parted_call f)
  know_freed None f h = h
  know_freed (Some q) f h = know_changed q parted_call f (λ c y k. k) h

  know_after : (a : Act) (f : ℕ → Option Call) → NoneListed a lines → KnowAll f → KnowAll (calls_after a f)
  know_after (act.Opened c law) f fresh h = know_new c f (new_call c law) (fresh Up, fresh Pcm, sym (fresh Down), sym (fresh Out)) h
  know_after (act.Closed c p) f fresh h = know_gone c (change_partner p parted_call f) (know_freed p f h)
  know_after (act.Bridged a b) f fresh h =
      know_changed a bridged_call (change_at b bridged_call f) (λ c y k. k) (know_changed b bridged_call f (λ c y k. k) h)
  know_after (act.Unbridged a b) f fresh h = know_changed a parted_call (change_at b parted_call f) (λ c y k. k) (know_changed b parted_call f (λ c y k. k) h)
  know_after (act.LevelSet c level) f fresh h = know_changed c (set_by (act.LevelSet c level)) f (λ n y k. k) h
  know_after (act.DtxSet c mode) f fresh h = know_changed c (set_by (act.DtxSet c mode)) f (λ n y k. k) h

-- **No act lists a line, and the calls that it leaves know theirs.**
pub known_after : (a : Act) (lines : List Line) (before now : List Kept) → NoneListed a lines →
    Applied a before now → AreFailed lines before → AreFailed lines now
known_after a lines before now fresh p k = record {
  once = k.once;
  known = λ c x e. know_after lines a (call_in before) fresh k.known c x (sym (p.calls c) ∙ e);
}

-- no line is listed of no call
pub none_failed : (lines : List Line) (bs : List (Box OpenCall)) → lines ≡ [] → bs ≡ [] → AreFailed lines (calls_of bs)
none_failed lines bs e f =
    subst (λ (ls : List Line). AreFailed ls (calls_of bs)) (sym e)
    (subst (λ (xs : List (Box OpenCall)). AreFailed [] (calls_of xs)) (sym f)
    (record { once = λ k l. absurd (omega (arith, l)); known = λ c x q. absurd (none_some q) }))
