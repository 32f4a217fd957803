-- What the report says of calls and bridges.
use Rattle.std.proofs.Common.{◌≡◌, refl, sym, ap, ◌∙◌, subst, ℕ, zero, suc, ◌+◌, ◌-◌, ◌<◌, ◌≤◌, Option, Some, None, List, [], ◌∷◌, ◌++◌, length, get_or, inl}
use Rattle.std.proofs.Common.{inr, set, arith}
use Rattle.std.specs.Prelude.{option_map}
use Rattle.std.specs.List.{filter_map, cons_option, range_with_len}
use Rattle.std.proofs.lemmas.Bool.{cases_eq}
use Rattle.std.proofs.lemmas.List.{append-nil, get_or-set_same, get_or-set_other}
use Rattle.std.proofs.lemmas.List.Elements.{filter_map-append}
use Rattle.call_number.specs.CallNumber.{IsCallNumber}
use Rattle.trau_io.specs.declared.ends.CallEnd.{CallEnd}
use Rattle.trau_io.specs.declared.ends.Counts.{Counts}
use Rattle.farm_report.specs.declared.report.CallLine.{CallLine}
use Rattle.switchboard.specs.Calls.{Done}
use Rattle.switchboard.specs.Ends.{start_of}
use Rattle.switchboard.specs.State.{State, end_so_far, replies_from}
use Rattle.farm_rounds.specs.declared.tally.Tally.{Tally}
use Rattle.farm_rounds.specs.Calls.{Call, Kept, call_in, partner_in}
use Rattle.farm_rounds.specs.Memory.{tally_in}
use Rattle.farm_rounds.specs.Histories.{CallHistory, CallStands, CallsStand, kept_of, tally_of}
use Rattle.farm_run.specs.Facts.{kept_in, call_line}

-- **What a farm says of an open call and of an ended one is what is kept of it.**
pub kept_value : {X : Type 0} (f : Tally → X) (h : ℕ → Option CallHistory) (calls : List Kept)
    (tallies : List Tally) (c : ℕ) (r : X) → CallsStand h calls →
    ((x : CallHistory) → h c ≡ Some x → r ≡ f (tally_of x.periods x.now)) →
    (call_in calls c ≡ None → r ≡ f (tally_in tallies c)) → r ≡ f (kept_in tallies h c)
kept_value f h calls tallies c r g live ended = by (h c) refl
  where
    none_call : (x : Option Call) (p : Option ℕ) → CallStands c None x p → x ≡ None
    none_call None p s = refl
    none_call (Some x) p s = absurd s

    by : (o : Option CallHistory) → h c ≡ o → r ≡ f (kept_of o (tally_in tallies c))
    by (Some x) q = live x q
    by None q = ended (none_call (call_in calls c) (partner_in calls c) (subst (λ o. CallStands c o (call_in calls c) (partner_in calls c)) q (g c)))

-- ---- the lines of calls, in call-number order

-- one number more
range_more : (a n j : ℕ) → a + n ≡ j → range_with_len a (suc n) ≡ range_with_len a n ++ j ∷ []
range_more a zero j e = let q : a ≡ j = omega arith in ap (λ (x : ℕ). x ∷ []) q
range_more a (suc n) j e = ap (λ xs. a ∷ xs) (range_more (a + 1) n j (omega arith))

-- what is made of the numbers up to one, and of the next
made_next : {X : Type 0} (f : ℕ → Option X) (c : ℕ) → 1 ≤ c →
    filter_map f (range_with_len 1 (c + 1 - 1)) ≡ filter_map f (range_with_len 1 (c - 1)) ++ cons_option (f c) []
made_next f c first =
    ap (λ (n : ℕ). filter_map f (range_with_len 1 n)) (let e : c + 1 - 1 ≡ suc (c - 1) = omega arith in e)
    ∙ ap (filter_map f) (range_more 1 (c - 1) c (omega arith)) ∙ filter_map-append f (range_with_len 1 (c - 1)) (c ∷ [])

-- **A number of which nothing is made adds nothing.**
pub none_made : {X : Type 0} (f : ℕ → Option X) (c : ℕ) (xs : List X) → 1 ≤ c → f c ≡ None →
    xs ≡ filter_map f (range_with_len 1 (c - 1)) → xs ≡ filter_map f (range_with_len 1 (c + 1 - 1))
none_made f c xs first none so_far =
    so_far ∙ sym (made_next f c first
    ∙ ap (λ o. filter_map f (range_with_len 1 (c - 1)) ++ cons_option o []) none
    ∙ append-nil (filter_map f (range_with_len 1 (c - 1))))

-- **What is made of a number is added.**
pub one_made : {X : Type 0} (f : ℕ → Option X) (c : ℕ) (x : X) (old new : List X) → 1 ≤ c → f c ≡ Some x →
    new ≡ old ++ x ∷ [] → old ≡ filter_map f (range_with_len 1 (c - 1)) →
    new ≡ filter_map f (range_with_len 1 (c + 1 - 1))
one_made f c x old new first some is so_far =
    is ∙ ap (λ xs. xs ++ x ∷ []) so_far
    ∙ sym (made_next f c first
    ∙ ap (λ o. filter_map f (range_with_len 1 (c - 1)) ++ cons_option o []) some)

-- a line with these parts
abbrev pub line_with : CallEnd → ℕ → Counts → CallLine
line_with e from counts = record { end = e; from = from; counts = counts }

-- **A call that hasn't ended has no line.**
pub line_none : (b : State) (kept : ℕ → Tally) (c : ℕ) → end_so_far b c ≡ None → call_line b kept c ≡ None
line_none b kept c none =
    ap (option_map (λ (e : CallEnd). line_with e (start_of b.done c) (kept c).counts)) none

-- **The line of a call that has ended.**
pub line_is : (b : State) (kept : ℕ → Tally) (c : ℕ) (e : CallEnd) (from : ℕ) (counts : Counts) →
    end_so_far b c ≡ Some e → from ≡ start_of b.done c → counts ≡ (kept c).counts →
    call_line b kept c ≡ Some (line_with e from counts)
line_is b kept c e from counts ended begins counted =
    ap (option_map (λ (e : CallEnd). line_with e (start_of b.done c) (kept c).counts)) ended
    ∙ sym (ap (λ (m : ℕ). Some (line_with e m counts)) begins
    ∙ ap (λ (m : Counts). Some (line_with e (start_of b.done c) m)) counted)

pub length-numbered : (n : ℕ) (ds : List Done) → length (replies_from n ds) ≡ length ds
length-numbered n [] = refl
length-numbered n (d ∷ ds) = ap suc (length-numbered (n + 1) ds)

-- **A table by number, with one entry more.**
pub table_more : (f : ℕ → ℕ) (xs : List ℕ) (i v : ℕ) → i < length xs → v ≡ f i →
    ((c : ℕ) → IsCallNumber c → c < i → get_or xs c 0 ≡ f c) → (c : ℕ) →
    IsCallNumber c → c < i + 1 → get_or (set xs i v) c 0 ≡ f c
table_more f xs i v within is h c k l = elim (cases_eq c i) [
  | inl q ↦ ap (λ (c : ℕ). get_or (set xs i v) c 0) q ∙ get_or-set_same xs i v 0 within ∙ is ∙ ap f (sym q)
  | inr n ↦ get_or-set_other xs i c v 0 n ∙ h c k (omega (arith, l, n))
]
