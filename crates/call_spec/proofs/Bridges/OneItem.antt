-- Of some bridges at most one has an item for a frame: it does not matter in which order they are asked.
use Rattle.std.proofs.Common.{◌≡◌, refl, sym, ap, ◌∙◌, subst, inl, inr, ◌⊎◌, ℕ, ◌+◌, ◌-◌, ◌<◌, Bool, true, false, ◌&&◌, if◌then◌else◌, nat_le, nat_lt, Option}
use Rattle.std.proofs.Common.{Some, None, List, [], ◌∷◌, ◌++◌, map, reverse, arith, append_assoc}
use Rattle.std.specs.Option.{option_or}
use Rattle.std.proofs.lemmas.Bool.{lt-leb, le-ltb, cond-false, and_right}
use Rattle.std.proofs.lemmas.List.{reverse-append}
use Rattle.down_framer.specs.Made.{MadeFrame}
use Rattle.down_framer.specs.ByNumber.{Bridge, NumberedFrame, count_from, carried_item, numbered_of}
use Rattle.down_framer.proofs.Timing.{AreOnTime}
use Rattle.call_spec.proofs.Stretched.{reverse-more}
use Rattle.down_framer.proofs.Used.{AreUsed}
use Rattle.down_framer.proofs.Carried.{count_from-of}

-- none of these bridges has an item for a frame made in period w
abbrev pub AreSilent : List Bridge → ℕ → List NumberedFrame → Type 0
AreSilent [] w fs = Unit {0}
AreSilent (b ∷ bs) w fs = (carried_item (b ∷ []) w fs ≡ None) × AreSilent bs w fs

-- the first bridge that has one is asked first
carried_item-append : (xs ys : List Bridge) (w : ℕ) (fs : List NumberedFrame) →
    carried_item (xs ++ ys) w fs ≡ option_or (carried_item xs w fs) (carried_item ys w fs)
carried_item-append [] ys w fs = refl
carried_item-append (b ∷ xs) ys w fs = by (nat_le b.from w && nat_lt (count_from b.from fs) (b.to - b.from)) (carried_item-append xs ys w fs)
  where
    by : (c : Bool) → carried_item (xs ++ ys) w fs ≡ option_or (carried_item xs w fs) (carried_item ys w fs) →
        (if c then Some (b.from + count_from b.from fs) else carried_item (xs ++ ys) w fs) ≡
        option_or (if c then Some (b.from + count_from b.from fs) else carried_item xs w fs) (carried_item ys w fs)
    by true e = refl
    by false e = e

pub or_none : {A : Type 0} (o : Option A) → option_or o None ≡ o
or_none None = refl
or_none (Some x) = refl

-- so none is carried
silent : (bs : List Bridge) (w : ℕ) (fs : List NumberedFrame) → AreSilent bs w fs → carried_item bs w fs ≡ None
silent [] w fs s = refl
silent (b ∷ bs) w fs s = carried_item-append (b ∷ []) bs w fs ∙ ap (λ o. option_or o (carried_item bs w fs)) s.0 ∙ silent bs w fs s.1

silent_append : (xs ys : List Bridge) (w : ℕ) (fs : List NumberedFrame) → AreSilent xs w fs → AreSilent ys w fs → AreSilent (xs ++ ys) w fs
silent_append [] ys w fs s q = q
silent_append (b ∷ xs) ys w fs s q = (s.0, silent_append xs ys w fs s.1 q)

-- in either order
pub silent_reverse : (bs : List Bridge) (w : ℕ) (fs : List NumberedFrame) → AreSilent bs w fs → AreSilent (reverse bs) w fs
silent_reverse [] w fs s = tt
silent_reverse (b ∷ bs) w fs s =
    subst (λ z. AreSilent z w fs) (sym (reverse-more b bs)) (silent_append (reverse bs) (b ∷ []) w fs (silent_reverse bs w fs s.1) (s.0, tt))

-- ---- at most one bridge has an item for a frame

-- at most one of them has
abbrev pub OneSpeaks : List Bridge → ℕ → List NumberedFrame → Type 0
OneSpeaks [] w fs = Unit {0}
OneSpeaks (b ∷ bs) w fs = ((carried_item (b ∷ []) w fs ≡ None) × OneSpeaks bs w fs) ⊎ AreSilent bs w fs

-- one between others that have none
one_between : (later earlier : List Bridge) (b : Bridge) (w : ℕ) (fs : List NumberedFrame) → AreSilent later w fs → AreSilent earlier w fs →
    OneSpeaks (later ++ b ∷ earlier) w fs
one_between [] earlier b w fs s q = inr q
one_between (a ∷ later) earlier b w fs s q = inl (s.0, one_between later earlier b w fs s.1 q)

-- so it is in either order
pub one_back : (later earlier : List Bridge) (b : Bridge) (w : ℕ) (fs : List NumberedFrame) → AreSilent later w fs → AreSilent earlier w fs →
    OneSpeaks (reverse (later ++ b ∷ earlier)) w fs
one_back later earlier b w fs s q =
    subst (λ z. OneSpeaks z w fs)
    (sym (reverse-append later (b ∷ earlier) ∙ ap (λ z. z ++ reverse later) (reverse-more b earlier) ∙ append_assoc (reverse earlier) (b ∷ []) (reverse later)))
    (one_between (reverse earlier) (reverse later) b w fs (silent_reverse earlier w fs q) (silent_reverse later w fs s))

-- none is at most one
pub silent_one : (bs : List Bridge) (w : ℕ) (fs : List NumberedFrame) → AreSilent bs w fs → OneSpeaks bs w fs
silent_one [] w fs s = tt
silent_one (b ∷ bs) w fs s = inr s.1

-- and they are asked in either order
pub same_item : (bs : List Bridge) (w : ℕ) (fs : List NumberedFrame) → OneSpeaks bs w fs → carried_item (reverse bs) w fs ≡ carried_item bs w fs
same_item [] w fs o = refl
same_item (b ∷ bs) w fs (inl o) =
    ap (λ z. carried_item z w fs) (reverse-more b bs) ∙ carried_item-append (reverse bs) (b ∷ []) w fs ∙ ap (option_or (carried_item (reverse bs) w fs)) o.0 ∙
    or_none (carried_item (reverse bs) w fs) ∙ same_item bs w fs o.1 ∙
    sym (carried_item-append (b ∷ []) bs w fs ∙ ap (λ z. option_or z (carried_item bs w fs)) o.0)
same_item (b ∷ bs) w fs (inr s) =
    ap (λ z. carried_item z w fs) (reverse-more b bs) ∙ carried_item-append (reverse bs) (b ∷ []) w fs ∙
    ap (λ z. option_or z (carried_item (b ∷ []) w fs)) (silent (reverse bs) w fs (silent_reverse bs w fs s)) ∙
    sym (carried_item-append (b ∷ []) bs w fs ∙ ap (option_or (carried_item (b ∷ []) w fs)) (silent bs w fs s) ∙ or_none (carried_item (b ∷ []) w fs))

-- a frame carries the item of a bridge that has one
silent_within : (before after : List Bridge) (b : Bridge) (w : ℕ) (fs : List NumberedFrame) → AreSilent (before ++ b ∷ after) w fs →
    carried_item (b ∷ []) w fs ≡ None
silent_within [] after b w fs s = s.0
silent_within (a ∷ before) after b w fs s = silent_within before after b w fs s.1

-- **The item of a bridge that has one is carried, wherever it stands.**
pub carried_item-speaks : (before after : List Bridge) (b : Bridge) (w h : ℕ) (fs : List NumberedFrame) → OneSpeaks (before ++ b ∷ after) w fs →
    carried_item (b ∷ []) w fs ≡ Some h →
    carried_item (before ++ b ∷ after) w fs ≡ Some h
carried_item-speaks [] after b w h fs o e = carried_item-append (b ∷ []) after w fs ∙ ap (λ z. option_or z (carried_item after w fs)) e
carried_item-speaks (a ∷ before) after b w h fs (inl o) e =
    carried_item-append (a ∷ []) (before ++ b ∷ after) w fs ∙ ap (λ z. option_or z (carried_item (before ++ b ∷ after) w fs)) o.0
    ∙ carried_item-speaks before after b w h fs o.1 e
carried_item-speaks (a ∷ before) after b w h fs (inr s) e =
    let q : None ≡ Some h = sym (silent_within before after b w fs s) ∙ e in cc

-- a bridge that begins later has none
pub too_late : (b : Bridge) (w : ℕ) (fs : List NumberedFrame) → w < b.from → carried_item (b ∷ []) w fs ≡ None
too_late b w fs l =
    cond-false (nat_le b.from w && nat_lt (count_from b.from fs) (b.to - b.from)) (Some (b.from + count_from b.from fs)) None
    (ap (λ z. z && nat_lt (count_from b.from fs) (b.to - b.from)) (lt-leb b.from w l))

-- nor has one that is used up
pub used_silent : {A : Type 0} (bs : List Bridge) (w : ℕ) (fs : List (MadeFrame A)) → AreOnTime fs → AreUsed bs fs → AreSilent bs w (map numbered_of fs)
used_silent [] w fs t u = tt
used_silent (b ∷ bs) w fs t u = (
  cond-false (nat_le b.from w && nat_lt (count_from b.from (map numbered_of fs)) (b.to - b.from)) (Some (b.from + count_from b.from (map numbered_of fs))) None
      (and_right (nat_le b.from w) _
      (let n = count_from-of b.from fs t in let l = u.0 in le-ltb (count_from b.from (map numbered_of fs)) (b.to - b.from) (omega arith))),
  used_silent bs w fs t u.1,
)
