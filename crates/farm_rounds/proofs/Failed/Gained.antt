-- For crates above: a listed line was listed before or failed in the round (`gained_cases`); lines with too few octets
-- lack periods (`fewer_up`).
-- The lines that are listed after a round: those from before and those that failed in it, each once, and what the calls
-- that
-- go on know of theirs.
use Rattle.std.proofs.Common.{◌≡◌, refl, sym, ap, ◌∙◌, subst, ℕ, ◌*◌, ◌/◌, ◌<◌, Bool, true, false, Some, List, ◌++◌, length, map, arith, inl, inr, ◌⊎◌}
use Rattle.std.specs.Prelude.{min, ◌||◌}
use Rattle.std.specs.List.{Contains}
use Rattle.std.specs.List.Sorted.{IsNonDecreasingBy, IsPermutation, IsStrictlyIncreasing}
use Rattle.std.proofs.lemmas.Bool.{cases_lt, eqb-true, true≢false, false≢true, or_cases, or_left, or_right, false_from_ne_true}
use Rattle.std.proofs.lemmas.List.{length-map}
use Rattle.std.proofs.lemmas.List.Elements.{All-get_or}
use Rattle.trau_io.specs.declared.line.Line.{Line}
use Rattle.trau_io.specs.declared.line.Side.{Side}
use Rattle.trau_io.specs.declared.line.Side.TheVariants.{Up, Pcm, Down, Out}
use Rattle.round_lines.specs.declared.transfer.Outlet.{Outlet}
use Rattle.round_lines.specs.declared.transfer.Outlet.TheVariants.{Sound, FailedBefore, FailedNow}
use Rattle.round_lines.specs.Transfer.{has_failed, fails_now}
use Rattle.round_lines.specs.Memory.{LinesMemory, fails_in, line_name, whole_in}
use Rattle.round_lines.specs.Portions.{PortionMemory}
use Rattle.round_lines.specs.Rounds.{Rising, portion_at, call_at}
use Rattle.farm_rounds.specs.declared.open.OpenCall.{OpenCall}
use Rattle.farm_rounds.specs.Calls.{Call, call_in}
use Rattle.farm_rounds.specs.Opens.{kept_of, portion_of_open}
use Rattle.farm_rounds.specs.Opened.{no_open}
use Rattle.farm_rounds.specs.Rounds.{EndsShort}
use Rattle.farm_rounds.specs.Working.{IsWorkedRound, GainsFailed}
use Rattle.farm_rounds.specs.Failed.{is_listed, was_failed, KnowsLines, KnowsCallLines, AreFailed, AreFailedBefore}
use Rattle.farm_rounds.proofs.Places.Found.{IsFound, is_found}
use Rattle.farm_rounds.proofs.Work.Portions.{portion_read_at}
use Rattle.farm_rounds.proofs.Drain.Farm.{IsLeft, left_is, left_open, numbers_left, own}
use Rattle.farm_rounds.proofs.Work.Marks.{portions_rise}
use Rattle.farm_rounds.proofs.Failed.Names.{Name, names, Lists, portion_listed, listed_portion, listed_before, listed_after, listed_name, name_listed}
use Rattle.farm_rounds.proofs.Failed.Names.{same_test}
use Rattle.farm_rounds.proofs.Failed.Once.{line_place, listed_once}

-- ---- the listed lines

-- a place has one portion
one_place : (portions : List PortionMemory) (i j : ℕ) → Rising portions → i < length portions → j < length portions → call_at portions i ≡ call_at portions j → i ≡ j
one_place portions i j r l k e = elim (cases_lt i j) [
  | inl a ↦ let m = r i j a k in absurd (omega (arith, m, e))
  | inr b ↦ elim (cases_lt j i) [ inl a ↦ let m = r j i a l in absurd (omega (arith, m, e)) | inr a ↦ omega arith ]
]

module _ (before now : List Line) (portions : List PortionMemory) (g : GainsFailed before now portions) where
  -- a line that is listed after the round was so before, or a portion names it
  pub gained_cases : (c : ℕ) (side : Side) → is_listed now c side ≡ true → (is_listed before c side ≡ true) ⊎ Lists portions (c, side)
  gained_cases c side e = elim (listed_after before now portions (c, side) g (listed_name now c side e)) [
    | inl m ↦ inl (name_listed before c side m)
    | inr m ↦ inr (listed_portion portions (c, side) m)
  ]

  -- one that was listed still is
  pub gained_still : (c : ℕ) (side : Side) → is_listed before c side ≡ true → is_listed now c side ≡ true
  gained_still c side e = name_listed now c side (listed_before before now portions (c, side) g (inl (listed_name before c side e)))

  -- **A line of a portion's call is listed where it was, or where it failed in the round.**
  pub gained_at : (k : ℕ) (side : Side) → Rising portions → k < length portions → is_listed now (call_at portions k) side
      ≡ (is_listed before (call_at portions k) side || fails_in (portion_at portions k).lines side)
  gained_at k side r l =
      same_test (is_listed now (call_at portions k) side) (is_listed before (call_at portions k) side || fails_in (portion_at portions k).lines side) front back
    where
      front : is_listed now (call_at portions k) side ≡ true → (is_listed before (call_at portions k) side || fails_in (portion_at portions k).lines side) ≡ true
      front q = elim (gained_cases (call_at portions k) side q) [
        | inl m ↦ or_left (is_listed before (call_at portions k) side) (fails_in (portion_at portions k).lines side) m
        | inr m ↦
            let same : m.k ≡ k = one_place portions m.k k r m.within l (sym (ap (λ (y : Name). y.0) m.name)) in
            or_right (is_listed before (call_at portions k) side) (fails_in (portion_at portions k).lines side)
            (subst (λ (i : ℕ). fails_in (portion_at portions i).lines side ≡ true) same
            (ap (fails_in (portion_at portions m.k).lines) (ap (λ (y : Name). y.1) m.name) ∙ m.fails))
      ]

      back : (is_listed before (call_at portions k) side || fails_in (portion_at portions k).lines side) ≡ true → is_listed now (call_at portions k) side ≡ true
      back q = elim (or_cases (is_listed before (call_at portions k) side) (fails_in (portion_at portions k).lines side) q) [
        | inl m ↦ gained_still (call_at portions k) side m
        | inr m ↦ name_listed now (call_at portions k) side (listed_before before now portions (call_at portions k, side) g (inr (portion_listed portions k side l m)))
      ]

-- ---- the marks of a place

-- a line stands as failed where it was so before the round, or failed in it
stands_failed : (o : Outlet) → has_failed o ≡ (was_failed o || fails_now o)
stands_failed Sound = refl
stands_failed FailedBefore = refl
stands_failed FailedNow = refl

-- one that failed before the round doesn't fail in it
not_again : (o : Outlet) → was_failed o ≡ true → fails_now o ≡ false
not_again Sound e = refl
not_again FailedBefore e = refl
not_again FailedNow e = absurd (false≢true e)

fails_once : (lines : List Line) (p : LinesMemory) (side : Side) → KnowsCallLines lines p →
    is_listed lines p.call side ≡ true → fails_in p side ≡ false
fails_once lines p Up h q = absurd (true≢false (sym q ∙ h.up))
fails_once lines p Pcm h q = absurd (true≢false (sym q ∙ h.pcm))
fails_once lines p Down h q = not_again p.down (h.down ∙ q)
fails_once lines p Out h q = not_again p.out (h.out ∙ q)

-- a place with fewer octets than its periods have lacks one of the periods
pub fewer_up : (p : LinesMemory) (n : ℕ) → p.up.count < 40 * n → whole_in p < n
fewer_up p n l = by p.up.count p.pcm.count l
  where
    by : (u v : ℕ) → u < 40 * n → min (u / 40) (v / 160) < n
    by u v l = omega arith

pub fewer_pcm : (p : LinesMemory) (n : ℕ) → p.pcm.count < 160 * n → whole_in p < n
fewer_pcm p n l = by p.up.count p.pcm.count l
  where
    by : (u v : ℕ) → v < 160 * n → min (u / 40) (v / 160) < n
    by u v l = omega arith

-- If a call has all periods, no incoming line of it failed in the round.
sound_up : (p : LinesMemory) → EndsShort p → whole_in p ≡ p.periods → p.up.failed ≡ false
sound_up p short full = false_from_ne_true p.up.failed (λ f. let less = fewer_up p p.periods (short.0 f) in absurd (omega (arith, less, full)))

sound_pcm : (p : LinesMemory) → EndsShort p → whole_in p ≡ p.periods → p.pcm.failed ≡ false
sound_pcm p short full = false_from_ne_true p.pcm.failed (λ f. let less = fewer_pcm p p.periods (short.1 f) in absurd (omega (arith, less, full)))

neither : (p q : Bool) → p ≡ false → q ≡ false → (p || q) ≡ false
neither true q e f = absurd (true≢false e)
neither false q e f = f

-- ---- all calls

module _ (most : ℕ) (live : List ℕ) (opens : List OpenCall) (w : IsWorkedRound most live opens)
    (before : List Line) (h : AreFailedBefore before opens) where
  abbrev portions : List PortionMemory
  portions = map portion_of_open opens

  rising : Rising portions
  rising = portions_rise most live opens w

  portion_knows : (k : ℕ) → k < length portions → KnowsCallLines before (portion_at portions k).lines
  portion_knows k l =
      let lk : k < length opens = omega (arith, l, length-map opens portion_of_open) in
      subst (λ (s : PortionMemory). KnowsCallLines before s.lines) (sym (portion_read_at opens k lk))
      (All-get_or (λ (o : OpenCall). KnowsCallLines before o.lines) opens k no_open lk h.known)

  -- no line that failed in the round was listed before
  none_again : (y : Name) → Contains (map line_name before) y → Contains (names portions) y → ⊥
  none_again y a b =
      let m = listed_portion portions y b in
      let listed : is_listed before (call_at portions m.k) m.side ≡ true =
      name_listed before (call_at portions m.k) m.side (subst (λ (z : Name). Contains (map line_name before) z) m.name a) in
      true≢false (sym m.fails ∙ fails_once before (portion_at portions m.k).lines m.side (portion_knows m.k m.within) listed)

  -- **So each line is listed once if the list is sorted.**
  pub gained_once : (lines now : List Line) → map line_name lines ≡ map line_name before ++ names portions → IsPermutation lines now →
      IsNonDecreasingBy line_place now → IsStrictlyIncreasing (map line_place now)
  gained_once lines now named sorted order = listed_once before lines now portions named sorted order rising none_again h.once

  -- **A call that goes on knows its lines.**
  gained_known : (now : List Line) → GainsFailed before now portions → (c : ℕ) (x : Call) →
      call_in (map kept_of (left_open (numbers_left opens) opens)) c ≡ Some x → KnowsLines now c x
  gained_known now g c x e = subst (KnowsLines now c) z.same (
    listed Up ∙ neither (is_listed before c Up) z.was.lines.up.failed (here Up ∙ knows.up) (sound_up z.was.lines knows.short full),
    listed Pcm ∙ neither (is_listed before c Pcm) z.was.lines.pcm.failed (here Pcm ∙ knows.pcm) (sound_pcm z.was.lines knows.short full),
    stands_failed z.was.lines.down ∙ ap (λ (b : Bool). b || fails_now z.was.lines.down) (knows.down ∙ sym (here Down)) ∙ sym (listed Down),
    stands_failed z.was.lines.out ∙ ap (λ (b : Bool). b || fails_now z.was.lines.out) (knows.out ∙ sym (here Out)) ∙ sym (listed Out),
  )
    where
      z : IsLeft (numbers_left opens) opens c x
      z = left_is most live opens w c x e

      f : IsFound opens c z.was
      f = is_found opens c z.was z.there

      within : f.index < length portions
      within = let l = f.inside in omega (arith, l, length-map opens portion_of_open)

      at : (portion_at portions f.index).lines ≡ z.was.lines
      at = ap (λ (s : PortionMemory). s.lines) (portion_read_at opens f.index f.inside) ∙ ap (λ (o : OpenCall). o.lines) f.there

      knows : KnowsCallLines before z.was.lines
      knows = subst (KnowsCallLines before) at (portion_knows f.index within)

      number : z.was.lines.call ≡ c
      number =
          ap (λ (o : OpenCall). o.lines.call) (sym f.there) ∙ own most live opens w f.index no_open f.inside ∙ ap (λ (o : OpenCall). o.job.io.call) f.there
          ∙ f.number

      here : (side : Side) → is_listed before c side ≡ is_listed before z.was.lines.call side
      here side = ap (λ (d : ℕ). is_listed before d side) (sym number)

      listed : (side : Side) → is_listed now c side ≡ (is_listed before c side || fails_in z.was.lines side)
      listed side =
          subst (λ (d : ℕ). is_listed now d side ≡ (is_listed before d side || fails_in z.was.lines side)) number
          (subst (λ (p : LinesMemory). is_listed now p.call side ≡ (is_listed before p.call side || fails_in p side)) at
          (gained_at before now portions g f.index side rising within))

      full : whole_in z.was.lines ≡ z.was.lines.periods
      full = eqb-true (whole_in z.was.lines) z.was.lines.periods z.goes

  failed_after : (now : List Line) → GainsFailed before now portions → AreFailed now (map kept_of (left_open (numbers_left opens) opens))
  failed_after now g = record { once = g.order; known = gained_known now g }

-- **So the farm after a round lists each line once, and its calls know theirs.**
pub failed_passed : (most : ℕ) (live : List ℕ) (opens : List OpenCall) (before now : List Line) (numbers : List ℕ) (left : List OpenCall) →
    IsWorkedRound most live opens → AreFailedBefore before opens → GainsFailed before now (map portion_of_open opens) → numbers ≡ numbers_left opens →
    left ≡ left_open numbers opens → AreFailed now (map kept_of left)
failed_passed most live opens before now numbers left w h g en el =
    subst (λ (os : List OpenCall). AreFailed now (map kept_of os)) (sym el)
    (subst (λ (ns : List ℕ). AreFailed now (map kept_of (left_open ns opens))) (sym en) (failed_after most live opens w before h now g))
