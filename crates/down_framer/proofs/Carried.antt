-- For crates above: numbered frames start where made ones do (`numbered_start-of`), and are as many from a period on
-- (`count_from-of`).
-- What a frame carries, by the bridges of all periods.
use Rattle.std.proofs.Common.{◌≡◌, refl, sym, ap, ◌∙◌, subst, ℕ, ◌+◌, ◌-◌, ◌≤◌, ◌<◌, suc, Bool, true, false, ◌&&◌, if◌then◌else◌, nat_le, nat_lt, Option, Some}
use Rattle.std.proofs.Common.{None, List, [], ◌∷◌, ◌++◌, length, map, filter, arith, inl, inr, length-append}
use Rattle.std.proofs.lemmas.Bool.{cases_lt, lt-leb, le-leb, lt-ltb, le-ltb, cases_Bool, cond-true, cond-false}
use Rattle.down_framer.specs.Made.{Period, MadeFrame, next_start, latest_start, hands_at, made_from, handed_due}
use Rattle.down_framer.specs.Bridges.{IsHistory}
use Rattle.down_framer.specs.ByNumber.{Bridge, when, count_from, carried_item, numbered_start, longer, bridges_in, numbered_of}
use Rattle.down_framer.proofs.Timing.{AreOnTime}
use Rattle.down_framer.proofs.Due.{due-some, due-none, latest_start-below}
use Rattle.down_framer.proofs.Latest.{bridge, went_on, latest, no_bridge, started, still}
use Rattle.down_framer.proofs.Used.{AreUsed, earlier_of}

-- by number a frame starts where the made one does
pub numbered_start-of : {A : Type 0} (fs : List (MadeFrame A)) → numbered_start (map numbered_of fs) ≡ next_start fs
numbered_start-of [] = refl
numbered_start-of (f ∷ fs) = refl

-- as many numbered frames were made since a period as made ones
pub count_from-of : {A : Type 0} (s : ℕ) (fs : List (MadeFrame A)) → AreOnTime fs → count_from s (map numbered_of fs) ≡ made_from s fs
count_from-of s [] t = refl
count_from-of s (f ∷ fs) t =
    let rest = count_from-of s fs t.1 in
    let on_time : when f.start ≡ f.period = t.0 in
    ap (λ k. length
    (if nat_le s k then numbered_of f ∷ filter (λ f. nat_le s (when f.start)) (map numbered_of fs) else filter (λ f. nat_le s (when f.start))
    (map numbered_of fs))) on_time ∙
    by (nat_le s f.period) rest
  where
    by : (b : Bool) → count_from s (map numbered_of fs) ≡ made_from s fs →
        length (if b then numbered_of f ∷ filter (λ f. nat_le s (when f.start)) (map numbered_of fs)
        else filter (λ f. nat_le s (when f.start)) (map numbered_of fs)) ≡
        length (if b then f ∷ filter (λ f. nat_le s f.period) fs else filter (λ f. nat_le s f.period) fs)
    by true e = ap suc e
    by false e = e

-- ---- what a frame carries

-- the same item, by the frames' own periods
abbrev pub item_by : {A : Type 0} → List Bridge → ℕ → List (MadeFrame A) → Option ℕ
item_by [] w fs = None
item_by (b ∷ bs) w fs =
    if nat_le b.from w && nat_lt (made_from b.from fs) (b.to - b.from) then Some (b.from + made_from b.from fs) else item_by bs w fs

-- a numbered frame carries what the frame of its own period does
pub carried_item-by : {A : Type 0} (bs : List Bridge) (w : ℕ) (fs : List (MadeFrame A)) → AreOnTime fs →
    carried_item bs w (map numbered_of fs) ≡ item_by bs w fs
carried_item-by [] w fs t = refl
carried_item-by (b ∷ bs) w fs t =
    ap (λ n. if nat_le b.from w && nat_lt n (b.to - b.from) then Some (b.from + n) else carried_item bs w (map numbered_of fs)) (count_from-of b.from fs t) ∙
    ap (λ o. if nat_le b.from w && nat_lt (made_from b.from fs) (b.to - b.from) then Some (b.from + made_from b.from fs) else o) (carried_item-by bs w fs t)

both_true : (a b : Bool) → a ≡ true → b ≡ true → (a && b) ≡ true
both_true true b p q = q
both_true false b p q = p

first_false : (a b : Bool) → a ≡ false → (a && b) ≡ false
first_false true b p = let q : true ≡ false = p in cc
first_false false b p = refl

second_false : (a b : Bool) → b ≡ false → (a && b) ≡ false
second_false true b p = p
second_false false b p = refl

-- a bridge that began and has periods left has an item
claims : {A : Type 0} (b : Bridge) (bs : List Bridge) (w : ℕ) (fs : List (MadeFrame A)) → b.from ≤ w → made_from b.from fs < b.to - b.from →
    item_by (b ∷ bs) w fs ≡ Some (b.from + made_from b.from fs)
claims b bs w fs l m =
    cond-true (nat_le b.from w && nat_lt (made_from b.from fs) (b.to - b.from)) (Some (b.from + made_from b.from fs)) (item_by bs w fs)
    (both_true _ _ (le-leb b.from w l) (lt-ltb (made_from b.from fs) (b.to - b.from) m))

-- one that begins later has none
too_late : {A : Type 0} (b : Bridge) (bs : List Bridge) (w : ℕ) (fs : List (MadeFrame A)) → w < b.from → item_by (b ∷ bs) w fs ≡ item_by bs w fs
too_late b bs w fs l =
    cond-false (nat_le b.from w && nat_lt (made_from b.from fs) (b.to - b.from)) (Some (b.from + made_from b.from fs)) (item_by bs w fs)
    (first_false _ (nat_lt (made_from b.from fs) (b.to - b.from)) (lt-leb b.from w l))

-- nor has one that is used up
used : {A : Type 0} (b : Bridge) (bs : List Bridge) (w : ℕ) (fs : List (MadeFrame A)) → b.to - b.from ≤ made_from b.from fs →
    item_by (b ∷ bs) w fs ≡ item_by bs w fs
used b bs w fs l =
    cond-false (nat_le b.from w && nat_lt (made_from b.from fs) (b.to - b.from)) (Some (b.from + made_from b.from fs)) (item_by bs w fs)
    (second_false (nat_le b.from w) _ (le-ltb (made_from b.from fs) (b.to - b.from) l))

-- bridges that are used up have no item
none_left : {A : Type 0} (bs : List Bridge) (w : ℕ) (fs : List (MadeFrame A)) → AreUsed bs fs → item_by bs w fs ≡ None
none_left [] w fs u = refl
none_left (b ∷ bs) w fs u = used b bs w fs u.0 ∙ none_left bs w fs u.1

-- in the newest period, what is due
pub item-due : {A : Type 0} (p : Period A) (past : List (Period A)) (fs : List (MadeFrame A)) → IsHistory (p ∷ past) →
    AreUsed (earlier_of (bridges_in (p ∷ past))) fs →
    item_by (bridges_in (p ∷ past)) (length past) fs ≡ handed_due (p ∷ past) fs
item-due p past fs h u = by (latest_start (p ∷ past)) refl
  where
    by : (o : Option ℕ) → latest_start (p ∷ past) ≡ o → item_by (bridges_in (p ∷ past)) (length past) fs ≡ handed_due (p ∷ past) fs
    by None e =
        ap (λ bs. item_by bs (length past) fs) (no_bridge (p ∷ past) e) ∙
        sym (ap (λ (o : Option ℕ).
        elim o as (λ x. Option ℕ) [ None ↦ None | Some s ↦ if hands_at (s + made_from s fs) (p ∷ past) then Some (s + made_from s fs) else None ]) e)
    by (Some s) e =
        let l = latest (p ∷ past) s h e in
        let below = latest_start-below (p ∷ past) s e in
        let rest : AreUsed l.earlier fs = subst (λ bs. AreUsed (earlier_of bs) fs) l.is u in
        ap (λ bs. item_by bs (length past) fs) l.is ∙
        elim (cases_lt (made_from s fs) (l.to - s)) [
          | inl left ↦
              claims (bridge s l.to) l.earlier (length past) fs (omega arith) left ∙
              sym (due-some (p ∷ past) fs s e (l.at (s + made_from s fs) (omega arith) ∙ lt-ltb (s + made_from s fs) l.to (omega arith)))
          | inr over ↦
              used (bridge s l.to) l.earlier (length past) fs over ∙ none_left l.earlier (length past) fs rest ∙
              sym (due-none (p ∷ past) fs s e (l.at (s + made_from s fs) (omega arith) ∙ le-ltb (s + made_from s fs) l.to (omega arith)))
        ]

-- later periods don't change what a frame of period p carries
pub item-later : {A : Type 0} (more : List (Period A)) (p : Period A) (past : List (Period A)) (fs : List (MadeFrame A)) → IsHistory (more ++ p ∷ past) →
    ((s : ℕ) → latest_start (p ∷ past) ≡ Some s → p.bridged ≡ true → s + made_from s fs ≤ length past) →
    item_by (bridges_in (more ++ p ∷ past)) (length past) fs ≡ item_by (bridges_in (p ∷ past)) (length past) fs
item-later [] p past fs h few = refl
item-later (q ∷ more) p past fs h few =
    let n = length-append more (p ∷ past) in
    let ps = more ++ p ∷ past in
    let rest = item-later more p past fs h.0 few in
    let w = length past in
    elim (cases_Bool q.starts) [
      | inl new ↦
          let list =
          cond-true q.starts (bridge (length ps) (if q.bridged then length ps + 1 else length ps) ∷ bridges_in ps)
          (if q.bridged then longer (bridges_in ps) else bridges_in ps) new in
          ap (λ bs. item_by bs w fs) list ∙ too_late _ (bridges_in ps) w fs (omega arith) ∙ rest
      | inr old ↦
          let list =
          cond-false q.starts (bridge (length ps) (if q.bridged then length ps + 1 else length ps) ∷ bridges_in ps)
          (if q.bridged then longer (bridges_in ps) else bridges_in ps) old in
          ap (λ bs. item_by bs w fs) list ∙
          elim (cases_Bool q.bridged) [
            | inr out ↦ ap (λ bs. item_by bs w fs) (cond-false q.bridged (longer (bridges_in ps)) (bridges_in ps) out) ∙ rest
            | inl goes ↦
                let b = went_on q ps old h.2 goes in
                let begin = started ps h.0 b in
                let l = latest ps begin.0 h.0 begin.1 in
                let to = l.goes_on b in
                let now = ap (λ bs. item_by bs w fs) l.is in
                ap (λ bs. item_by bs w fs) (cond-true q.bridged (longer (bridges_in ps)) (bridges_in ps) goes) ∙
                ap (λ bs. item_by (longer bs) w fs) l.is ∙
                elim (cases_lt w begin.0) [
                  | inl late ↦
                      too_late (bridge begin.0 (l.to + 1)) l.earlier w fs late ∙ sym (too_late (bridge begin.0 l.to) l.earlier w fs late) ∙ sym now ∙ rest
                  | inr by_now ↦
                      let on = still more p past begin.0 h.0 begin.1 b by_now in
                      let few_now = few begin.0 on.0 on.1 in
                      claims (bridge begin.0 (l.to + 1)) l.earlier w fs by_now (omega arith) ∙
                      sym (claims (bridge begin.0 l.to) l.earlier w fs by_now (omega arith)) ∙ sym now ∙ rest
                ]
          ]
    ]
