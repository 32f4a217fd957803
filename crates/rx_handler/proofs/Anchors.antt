-- The latest anchor of numbered periods is that of their history, with the newest period first.
use Rattle.std.proofs.Common.{◌≡◌, refl, ap, ◌∙◌, sym, subst, ℕ, ◌+◌, ◌-◌, ◌≤◌, zero, suc, Bool, true, false, if◌then◌else◌, Option, Some, None, List, [], ◌∷◌}
use Rattle.std.proofs.Common.{◌++◌, length, arith}
use Rattle.std.specs.Prelude.{filter}
use Rattle.std.specs.List.{range_with_len}
use Rattle.std.proofs.lemmas.List.{append-nil}
use Rattle.rx_handler.specs.Heard.{Heard, Good, Sid, Idle, Lost}
use Rattle.rx_handler.specs.Effective.{is_anchor, is_missed, latest_anchor, missed_since}
use Rattle.rx_handler.specs.Past.{Anchor, NoAnchor, AtGood, AtSid, anchor_of, anchor_after, periods_of_fall}
use Rattle.rx_handler.proofs.Missed.{missed_since-more, Counted, counted_none, counted_missed, counted_other}

-- the periods before k, the newest first
abbrev pub periods_before : (ℕ → Heard) → ℕ → List Heard
periods_before heard zero = []
periods_before heard (suc k) = heard k ∷ periods_before heard k

-- the periods after anchor g up to k are `since`, the newest first
pub record Since (heard : ℕ → Heard) (k g : ℕ) (since : List Heard) : Type 0 where
  pub count : length since ≡ k - g
  pub counted : Counted k since (missed_since heard g k)

-- at the anchor itself
since_none : (heard : ℕ → Heard) (k : ℕ) → Since heard k k []
unfolding missed_since periods_of_fall
since_none heard k =
    let none : k - k ≡ 0 = omega arith in
    record {
      count = sym none;
      counted = subst (λ n. Counted k [] (filter (λ i. is_missed (heard i)) (range_with_len (k + 1) n))) (sym none) (counted_none k);
    }

-- one more lost period after it
since_more : (heard : ℕ → Heard) (k g : ℕ) (since : List Heard) (missed : Bool) → g ≤ k → heard (suc k) ≡ Lost missed →
    Since heard k g since → Since heard (suc k) g (Lost missed ∷ since)
since_more heard k g since true h e s =
    let count = s.count in
    let more : missed_since heard g (suc k) ≡ missed_since heard g k ++ suc k ∷ [] =
    missed_since-more heard g k h ∙ ap (λ y. missed_since heard g k ++ (if is_missed y then suc k ∷ [] else [])) e in
    record {
      count = omega arith;
      counted = subst (Counted (suc k) (Lost true ∷ since)) (sym more) (counted_missed k since (missed_since heard g k) s.counted);
    }
since_more heard k g since false h e s =
    let count = s.count in
    let more : missed_since heard g (suc k) ≡ missed_since heard g k =
    missed_since-more heard g k h ∙ ap (λ y. missed_since heard g k ++ (if is_missed y then suc k ∷ [] else [])) e ∙ append-nil (missed_since heard g k) in
    record {
      count = omega arith;
      counted = subst (Counted (suc k) (Lost false ∷ since)) (sym more) (counted_other k since (missed_since heard g k) s.counted);
    }

-- anchor g, heard as this, is what the history has as its anchor
unfoldable pub TellsAt : (ℕ → Heard) → ℕ → ℕ → Heard → Anchor → Type 0
TellsAt heard k g (Good p) a = (since : List Heard) × (a ≡ AtGood p since) × Since heard k g since
TellsAt heard k g (Sid q) a = (since : List Heard) × (a ≡ AtSid q since) × Since heard k g since
TellsAt heard k g Idle a = a ≡ NoAnchor
TellsAt heard k g (Lost missed) a = ⊥

-- the latest anchor, if there is one, is what the history has as its anchor
unfoldable pub Tells : (ℕ → Heard) → ℕ → Option ℕ → Anchor → Type 0
Tells heard k None a = a ≡ NoAnchor
Tells heard k (Some g) a = (g ≤ k) × TellsAt heard k g (heard g) a

-- the same after one more lost period
tells_more_at : (heard : ℕ → Heard) (k g : ℕ) (y : Heard) (a : Anchor) (missed : Bool) → g ≤ k → heard (suc k) ≡ Lost missed →
    TellsAt heard k g y a → TellsAt heard (suc k) g y (anchor_after (Lost missed) a)
unfolding TellsAt
tells_more_at heard k g (Good p) a missed h e t = (Lost missed ∷ t.0, ap (anchor_after (Lost missed)) t.1, since_more heard k g t.0 missed h e t.2)
tells_more_at heard k g (Sid q) a missed h e t = (Lost missed ∷ t.0, ap (anchor_after (Lost missed)) t.1, since_more heard k g t.0 missed h e t.2)
tells_more_at heard k g Idle a missed h e t = ap (anchor_after (Lost missed)) t
tells_more_at heard k g (Lost b) a missed h e t = t

tells_more : (heard : ℕ → Heard) (k : ℕ) (o : Option ℕ) (a : Anchor) (missed : Bool) → heard (suc k) ≡ Lost missed →
    Tells heard k o a → Tells heard (suc k) o (anchor_after (Lost missed) a)
unfolding Tells
tells_more heard k None a missed e t = ap (anchor_after (Lost missed)) t
tells_more heard k (Some g) a missed e t = let low = t.0 in (omega arith, tells_more_at heard k g (heard g) a missed t.0 e t.1)

-- an anchor in period k itself
tells_here : (heard : ℕ → Heard) (k : ℕ) (y : Heard) (past : List Heard) → heard k ≡ y → is_anchor y ≡ true → Tells heard k (Some k) (anchor_of (y ∷ past))
unfolding Tells TellsAt anchor_of
tells_here heard k (Good p) past e t = (omega arith, subst (λ y. TellsAt heard k k y (AtGood p [])) (sym e) ([], refl, since_none heard k))
tells_here heard k (Sid q) past e t = (omega arith, subst (λ y. TellsAt heard k k y (AtSid q [])) (sym e) ([], refl, since_none heard k))
tells_here heard k Idle past e t = (omega arith, subst (λ y. TellsAt heard k k y NoAnchor) (sym e) refl)
tells_here heard k (Lost missed) past e t = absurd (let wrong : false ≡ true = t in cc)

tells_first : (heard : ℕ → Heard) (y : Heard) → heard 0 ≡ y → Tells heard 0 (if is_anchor y then Some 0 else None) (anchor_of (y ∷ []))
tells_first heard (Good p) e = tells_here heard 0 (Good p) [] e refl
tells_first heard (Sid q) e = tells_here heard 0 (Sid q) [] e refl
tells_first heard Idle e = tells_here heard 0 Idle [] e refl
tells_first heard (Lost missed) e = unfold Tells in unfold anchor_of in refl

-- after any period
tells_next : (heard : ℕ → Heard) (k : ℕ) (y : Heard) (o : Option ℕ) (past : List Heard) → heard (suc k) ≡ y → Tells heard k o (anchor_of past) →
    Tells heard (suc k) (if is_anchor y then Some (suc k) else o) (anchor_of (y ∷ past))
unfolding anchor_of
tells_next heard k (Good p) o past e t = tells_here heard (suc k) (Good p) past e refl
tells_next heard k (Sid q) o past e t = tells_here heard (suc k) (Sid q) past e refl
tells_next heard k Idle o past e t = tells_here heard (suc k) Idle past e refl
tells_next heard k (Lost missed) o past e t = tells_more heard k o (anchor_of past) missed e t

-- **It is so in each period.**
pub tells : (heard : ℕ → Heard) (k : ℕ) → Tells heard k (latest_anchor heard k) (anchor_of (periods_before heard (suc k)))
unfolding latest_anchor
tells heard zero = tells_first heard (heard 0) refl
tells heard (suc k) = tells_next heard k (heard (suc k)) (latest_anchor heard k) (periods_before heard (suc k)) refl (tells heard k)
