-- The history of a book.
use Rattle.std.proofs.Common.{◌≡◌, ℕ, suc, ◌<◌, Bool, true, false, Some, List, [], ◌∷◌, ◌++◌, length, drop, find, refl, sym, ap, subst, ◌∙◌}
use mathlib.Core.Bool.{cond}
use lib.ListN.{get_or}
use Rattle.std.proofs.Math.Seq.{drop-cons}
use Rattle.trau_bits.specs.Bits.{bits_of}
use Rattle.call_leg.specs.Who.{Who}
use Rattle.call_leg.specs.Periods.{CallPeriod}
use Rattle.call_leg.specs.Settings.{new_settings}
use Rattle.call_leg.specs.Memory.{LegMemory}
use Rattle.call_leg.specs.Stands.{Stands}
use Rattle.call_leg.specs.Out.{out_of}
use Rattle.call_leg.specs.Down.{down_now}
use Rattle.farm_live.specs.declared.post.Entry.{Entry}
use Rattle.farm_live.specs.Book.{who_at, HasPeriod, period_of, periods_after, IsWorkedFrom, IsLegal}
use Rattle.farm_live.specs.Step.{WorksOn}

-- the periods after one entry more
pub after_one_more : (ts : List CallPeriod) (es : List Entry) (e : Entry) → periods_after ts (es ++ e ∷ []) ≡ period_of e.post ∷ periods_after ts es
after_one_more ts [] e = refl
after_one_more ts (x ∷ es) e = after_one_more (period_of x.post ∷ ts) es e

-- one more entry is legal if its octets are those of the call
pub legal_one_more : (who : Who) (ts : List CallPeriod) (es : List Entry) (e : Entry) → IsWorkedFrom who ts es → HasPeriod e.post →
    e.out ≡ out_of who (period_of e.post ∷ periods_after ts es) → bits_of e.down ≡ down_now who (period_of e.post ∷ periods_after ts es) →
    IsWorkedFrom who ts (es ++ e ∷ [])
legal_one_more who ts [] e p sized out down = (sized, out, down, tt)
legal_one_more who ts (x ∷ es) e p sized out down = (p.0, p.1, p.2, legal_one_more who (period_of x.post ∷ ts) es e p.3 sized out down)

-- one more entry is legal if the leg worked its post after the history
pub leg_one_more : (call : ℕ) (es : List Entry) (e : Entry) (old new : LegMemory) → IsLegal call es → HasPeriod e.post →
    Stands (who_at call) (periods_after [] es) new_settings old → WorksOn old e new →
    IsLegal call (es ++ e ∷ []) × Stands (who_at call) (periods_after [] (es ++ e ∷ [])) new_settings new
leg_one_more call es e old new legal sized stands works =
    let w = works (who_at call) (periods_after [] es) stands in (
      legal_one_more (who_at call) [] es e legal sized w.1 w.2,
      subst (λ (ts : List CallPeriod). Stands (who_at call) ts new_settings new)
          (sym (after_one_more [] es e)) w.0,
    )

-- ---- the search for an entry

-- a search from an index on: the entry there is the one, or the search goes on behind it
find_next : (p : Entry → Bool) (xs : List Entry) (k : ℕ) (x : Entry) (t : Bool) → k < length xs → x ≡ get_or xs k x → p x ≡ t →
    find p (drop k xs) ≡ cond t (Some x) (find p (drop (suc k) xs))
find_next p xs k x t lt e h =
    ap (find p) (drop-cons xs k x lt) ∙ ap (λ y. find p (y ∷ drop (suc k) xs)) (sym e) ∙ ap (λ s. cond s (Some x) (find p (drop (suc k) xs))) h

pub found_here : (p : Entry → Bool) (xs : List Entry) (k : ℕ) (x : Entry) → k < length xs → x ≡ get_or xs k x → p x ≡ true → find p (drop k xs) ≡ find p xs →
    Some x ≡ find p xs
found_here p xs k x lt e h so_far = sym (find_next p xs k x true lt e h) ∙ so_far

pub not_here : (p : Entry → Bool) (xs : List Entry) (k : ℕ) (x : Entry) → k < length xs → x ≡ get_or xs k x → p x ≡ false → find p (drop k xs) ≡ find p xs →
    find p (drop (suc k) xs) ≡ find p xs
not_here p xs k x lt e h so_far = sym (find_next p xs k x false lt e h) ∙ so_far
