-- For crates above: the yields of the periods, one after another, are those of all their bits (`yields-past`).
use Rattle.std.proofs.Common.{◌≡◌, ℕ, ◌+◌, ◌*◌, ◌<◌, ◌≤◌, Bool, true, false, List, [], ◌∷◌, ◌++◌, length, length-append, Option, Some, None, option_to_list}
use Rattle.std.proofs.Common.{refl, sym, ap, ◌∙◌, subst, arith, inl, inr}
use Rattle.std.specs.List.{flat_map}
use Rattle.std.proofs.lemmas.Bool.{cases_lt, cases_eq, eq-eqb, ne_eqb}
use Rattle.std.proofs.lemmas.List.{get_or_append_left, append-nil}
use Rattle.std.proofs.lemmas.List.Elements.{All-head, All-tail}
use Rattle.std.proofs.lemmas.Grind.{flat_map-append}
use Rattle.trau_bits.specs.Bits.{bits_of}
use Rattle.trau_bits.proofs.BitList.{length-bits_of}
use Rattle.frame_sync.specs.declared.yields.Mode.{Mode}
use Rattle.frame_sync.specs.declared.yields.Mode.TheVariants.{Hunting, Locked}
use Rattle.frame_sync.specs.declared.yields.Yield.{Yield}
use Rattle.frame_sync.specs.declared.yields.Yield.TheVariants.{Frame, Miss}
use Rattle.trau_frame.specs.Match.{bit_in, is_match, frame_at}
use Rattle.frame_sync.specs.Yields.{misses_to_hunt, Yields}
use Rattle.frame_sync.specs.Periods.{after_miss, found_in, hunted, yield_due, searched, line_bits, mode_after, each_yield, ArePeriods}
use Rattle.frame_sync.specs.Memory.{IsNear}
use Rattle.trau_frame.proofs.Matches.{is_match-same, frame_at-same}
use Rattle.frame_sync.proofs.Modes.{Gives, GiveAll, NoneEnds, all-follow}
use Rattle.frame_sync.proofs.Searched.{Looked, looked}
use Rattle.frame_sync.proofs.Steps.{near-mode_after, length-line_bits}

-- ---- the line goes on

-- bits behind a frame do not matter
match-more : (xs ys : List ℕ) (p : ℕ) → p + 320 ≤ length xs → is_match (bit_in (xs ++ ys)) p ≡ is_match (bit_in xs) p
match-more xs ys p l = is_match-same (bit_in (xs ++ ys)) (bit_in xs) p p (λ i h. get_or_append_left xs ys 0 (p + i) (omega arith))

frame-more : (xs ys : List ℕ) (p : ℕ) → p + 320 ≤ length xs → frame_at (bit_in (xs ++ ys)) p ≡ frame_at (bit_in xs) p
frame-more xs ys p l = frame_at-same (bit_in (xs ++ ys)) (bit_in xs) p p (λ i h. get_or_append_left xs ys 0 (p + i) (omega arith))

within-more : (xs ys : List ℕ) (n : ℕ) → n ≤ length xs → n ≤ length (xs ++ ys)
within-more xs ys n l = rw (length-append xs ys) (omega arith)

-- nor for what the search gives
gives-more : (xs ys : List ℕ) (mode : Mode) (y : Yield) (after : Mode) → Gives xs mode y after → Gives (xs ++ ys) mode y after
gives-more xs ys (Hunting low) (Frame p f) after g =
    let within = g.3 in (
      g.0,
      (λ q a b. match-more xs ys q (omega arith) ∙ g.1 q a b),
      match-more xs ys p within ∙ g.2,
      within-more xs ys (p + 320) within,
      g.4 ∙ sym (frame-more xs ys p within),
      g.5,
    )
gives-more xs ys (Hunting low) (Miss p) after g = g
gives-more xs ys (Locked next misses) (Frame p f) after g =
    let within = g.2 in (
      g.0,
      match-more xs ys p within ∙ g.1,
      within-more xs ys (p + 320) within,
      g.3 ∙ sym (frame-more xs ys p within),
      g.4,
    )
gives-more xs ys (Locked next misses) (Miss p) after g =
    let within = g.2 in (g.0, match-more xs ys p within ∙ g.1, within-more xs ys (p + 320) within, g.3)

give_all-more : (xs ys : List ℕ) (mode : Mode) (zs : List Yield) (last : Mode) → GiveAll xs mode zs last → GiveAll (xs ++ ys) mode zs last
give_all-more xs ys mode [] last g = g
give_all-more xs ys mode (z ∷ zs) last g = (g.0, gives-more xs ys mode z g.0 g.1, give_all-more xs ys g.0 zs last g.2)

none_ends-more : (xs ys : List ℕ) (mode : Mode) → NoneEnds xs (length xs) mode → NoneEnds (xs ++ ys) (length xs) mode
none_ends-more xs ys (Hunting low) h = λ q a b. match-more xs ys q b ∙ h q a b
none_ends-more xs ys (Locked next misses) h = h

-- ---- one yield more

-- one yield more at the end
give_all-then : (xs : List ℕ) (mode mid : Mode) (zs : List Yield) (y : Yield) (last : Mode) → GiveAll xs mode zs mid → Gives xs mid y last →
    GiveAll xs mode (zs ++ y ∷ []) last
give_all-then xs mode mid [] y last g s = (last, subst (λ m. Gives xs m y last) g s, refl)
give_all-then xs mode mid (z ∷ zs) y last g s = (g.0, g.1, give_all-then xs g.0 mid zs y last g.2 s)

-- what a period adds: at most one yield, and no other ends in it
abbrev Adds : List ℕ → Mode → Option Yield → Mode → Type 0
Adds bits mode None after = (after ≡ mode) × NoneEnds bits (length bits) after
Adds bits mode (Some y) after = Gives bits mode y after × NoneEnds bits (length bits) after

-- what a period adds: hunting, where a frame is due, and in any mode
adds-hunted : (bits : List ℕ) (base low : ℕ) (o : Option ℕ) → length bits ≡ base + 320 → low ≤ base → NoneEnds bits base (Hunting low) →
    Looked (bit_in bits) base low o → Adds bits (Hunting low) (hunted (bit_in bits) low o).0 (hunted (bit_in bits) low o).1
adds-hunted bits base low None count l old h = (
  refl,
  λ q a b. elim (cases_lt base (q + 320)) [
    | inl here ↦ h q (omega arith) (omega arith)
    | inr before ↦ old q a before
  ],
)
adds-hunted bits base low (Some p) count l old h =
    let from = h.from in
    let below = h.below in (
      (
        omega arith,
        (λ q a b. elim (cases_lt base (q + 320)) [
          | inl here ↦ h.before q (omega arith) b
          | inr before ↦ old q a before
        ]),
        h.matches,
        omega arith,
        refl,
        refl,
      ),
      omega arith,
    )

-- no frame ends in the bits after a miss
none_ends-after_miss : (bits : List ℕ) (base next misses : ℕ) → length bits ≡ base + 320 → base < next + 320 →
    NoneEnds bits (length bits) (after_miss next misses)
none_ends-after_miss bits base next misses count h = elim (cases_eq (misses + 1) misses_to_hunt) [
  | inl last ↦ rw (eq-eqb (misses + 1) misses_to_hunt last) (λ q a b. absurd (omega arith))
  | inr less ↦ rw (ne_eqb (misses + 1) misses_to_hunt less) (omega arith)
]

adds-due : (bits : List ℕ) (base next misses : ℕ) (b : Bool) → length bits ≡ base + 320 → next ≤ base → base < next + 320 →
    is_match (bit_in bits) next ≡ b → Adds bits (Locked next misses) (yield_due (bit_in bits) next misses b).0 (yield_due (bit_in bits) next misses b).1
adds-due bits base next misses true count l h e = ((refl, e, omega arith, refl, refl), omega arith)
adds-due bits base next misses false count l h e = ((refl, e, omega arith, refl), none_ends-after_miss bits base next misses count h)

adds-searched : (bits : List ℕ) (base : ℕ) (mode : Mode) → length bits ≡ base + 320 → IsNear base mode → NoneEnds bits base mode →
    Adds bits mode (searched (bit_in bits) base mode).0 (searched (bit_in bits) base mode).1
unfolding searched
adds-searched bits base (Hunting low) count near old =
    adds-hunted bits base low (found_in (bit_in bits) base low) count near.0 old (looked (bit_in bits) base low)
adds-searched bits base (Locked next misses) count near old =
    adds-due bits base next misses (is_match (bit_in bits) next) count near.0 near.1 refl

-- ---- all periods

pub flat_map-one : (ys : List (Option Yield)) (y : Option Yield) → flat_map option_to_list (ys ++ y ∷ []) ≡ flat_map option_to_list ys ++ option_to_list y
flat_map-one ys y = flat_map-append option_to_list ys (y ∷ []) ∙ ap (λ l. flat_map option_to_list ys ++ l) (append-nil (option_to_list y))

-- these yields come first, and no other ends in the bits
record Given (bits : List ℕ) (ys : List Yield) (last : Mode) : Type 0 where
  gives : GiveAll bits (Hunting 0) ys last
  none : NoneEnds bits (length bits) last

-- the yields so far with that of one period more
given-adds : (bits : List ℕ) (ys : List Yield) (mode : Mode) (y : Option Yield) (after : Mode) → GiveAll bits (Hunting 0) ys mode → Adds bits mode y after →
    Given bits (ys ++ option_to_list y) after
given-adds bits ys mode None after g a = record {
  gives = rw (append-nil ys, a.0) g;
  none = a.1;
}
given-adds bits ys mode (Some y) after g a = record {
  gives = give_all-then bits (Hunting 0) mode ys y after g a.0;
  none = a.1;
}

-- those of all periods
given-past : (past : List (List ℕ)) → ArePeriods past → Given (line_bits past) (flat_map option_to_list (each_yield past)) (mode_after past)
unfolding line_bits mode_after each_yield
given-past [] h = record { gives = refl; none = λ q a b. absurd (omega arith) }
given-past (octets ∷ past) h =
    let here : length octets ≡ 40 = All-head (λ o. length o ≡ 40) octets past h in
    let periods : ArePeriods past = All-tail (λ o. length o ≡ 40) octets past h in
    let old = given-past past periods in
    let before : length (line_bits past) ≡ 320 * length past = length-line_bits past periods in
    let count : length (line_bits past ++ bits_of octets) ≡ 320 * length past + 320 =
    length-append (line_bits past) (bits_of octets) ∙ (let n = length-bits_of octets in omega arith) in
    let none : NoneEnds (line_bits past ++ bits_of octets) (320 * length past) (mode_after past) =
    subst (λ n. NoneEnds (line_bits past ++ bits_of octets) n (mode_after past)) before
    (none_ends-more (line_bits past) (bits_of octets) (mode_after past) old.none) in
    let found : Option Yield × Mode = searched (bit_in (line_bits past ++ bits_of octets)) (320 * length past) (mode_after past) in
    rw (flat_map-one (each_yield past) found.0)
    (given-adds (line_bits past ++ bits_of octets) (flat_map option_to_list (each_yield past)) (mode_after past) found.0 found.1
    (give_all-more (line_bits past) (bits_of octets) (Hunting 0) (flat_map option_to_list (each_yield past)) (mode_after past) old.gives)
    (adds-searched (line_bits past ++ bits_of octets) (320 * length past) (mode_after past) count (near-mode_after past) none))

-- are all yields of the line
pub yields-past : (past : List (List ℕ)) → ArePeriods past → Yields (line_bits past) (flat_map option_to_list (each_yield past))
yields-past past h =
    let given = given-past past h in
    all-follow (line_bits past) (flat_map option_to_list (each_yield past)) (mode_after past) given.gives given.none
