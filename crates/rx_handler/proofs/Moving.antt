-- Where the noise stands, by the latest anchor.
use Rattle.std.proofs.Common.{◌≡◌, refl, ap, ◌∙◌, subst, ℕ, zero, suc, true, false, if◌then◌else◌, Bool, Option, Some, None, arith}
use Rattle.std.specs.Prelude.{◌==◌, ◌≢◌}
use Rattle.std.specs.Option.{option_map_or}
use Rattle.std.proofs.lemmas.Grind.{common_steps}
use Rattle.trau_params.specs.Fields.{Fields}
use Rattle.rx_handler.specs.Heard.{Heard, Good, Sid, Idle, Lost}
use Rattle.rx_handler.specs.Effective.{is_anchor, latest_anchor, fall_at, start_after, approach_start_at, base_at, IsNoise}

-- between descriptors the start of the way stays
Same : (ℕ → Heard) → ℕ → Fields → Option ℕ → Type 0
Same heard k q None = Unit {0}
Same heard k q (Some g) = (is_anchor (heard g) ≡ true) × (approach_start_at heard k q ≡ approach_start_at heard g q)

same_next : (heard : ℕ → Heard) (k : ℕ) (q : Fields) (b : Bool) (o : Option ℕ) → is_anchor (heard (suc k)) ≡ b → Same heard k q o →
    Same heard (suc k) q (if b then Some (suc k) else o)
unfolding Same approach_start_at
same_next heard k q true o e s = (e, refl)
same_next heard k q false None e s = tt
same_next heard k q false (Some g) e s = (s.0, rw e s.1)

same_first : (heard : ℕ → Heard) (q : Fields) (b : Bool) → is_anchor (heard 0) ≡ b → Same heard 0 q (if b then Some 0 else None)
unfolding Same
same_first heard q true e = (e, refl)
same_first heard q false e = tt

-- it is the same since the anchor
same_since : (heard : ℕ → Heard) (k : ℕ) (q : Fields) → Same heard k q (latest_anchor heard k)
unfolding latest_anchor
same_since heard zero q = same_first heard q (is_anchor (heard 0)) refl
same_since heard (suc k) q = same_next heard k q (is_anchor (heard (suc k))) (latest_anchor heard k) refl (same_since heard k q)

pub approach_start_at-since : (heard : ℕ → Heard) (k g : ℕ) (q : Fields) → latest_anchor heard k ≡ Some g → approach_start_at heard k q ≡ approach_start_at heard g q
unfolding Same
approach_start_at-since heard k g q e = let s : Same heard k q (Some g) = subst (Same heard k q) e (same_since heard k q) in s.1

-- an anchor
at_anchor : (heard : ℕ → Heard) (k : ℕ) (q : Fields) → is_anchor (heard (suc k)) ≡ true →
    approach_start_at heard (suc k) q ≡ option_map_or (λ g. start_after heard k (λ r. approach_start_at heard k r) q g (heard g)) (latest_anchor heard k) q
unfolding approach_start_at
at_anchor heard k q e = rw e refl

-- a new descriptor is approached from where the noise stands
pub approach_start_at-noise : (heard : ℕ → Heard) (k g : ℕ) (q r : Fields) → is_anchor (heard (suc k)) ≡ true → IsNoise heard k g r → fall_at heard g k ≡ 0 →
    approach_start_at heard (suc k) q ≡ base_at heard k g r
approach_start_at-noise heard k g q r a n f =
    at_anchor heard k q a ∙ ap (λ o. option_map_or (λ g. start_after heard k (λ r. approach_start_at heard k r) q g (heard g)) o q) n.0
    ∙ ap (start_after heard k (λ r. approach_start_at heard k r) q g) n.1
    ∙ ap (λ n. if n == 0 then base_at heard k g r else q) f

-- or from itself, where the level falls
itself_at : (heard : ℕ → Heard) (k g : ℕ) (q : Fields) (y : Heard) → ((r : Fields) → y ≡ Sid r → fall_at heard g k ≢ 0) →
    start_after heard k (λ r. approach_start_at heard k r) q g y ≡ q
itself_at heard k g q (Good p) h = refl
itself_at heard k g q (Sid r) h = let n = h r refl in let e : (fall_at heard g k == 0) ≡ false = grind (arith, common_steps) in rw e refl
itself_at heard k g q Idle h = refl
itself_at heard k g q (Lost missed) h = refl

itself : (heard : ℕ → Heard) (k : ℕ) (q : Fields) (o : Option ℕ) → ((g : ℕ) (r : Fields) → o ≡ Some g → heard g ≡ Sid r → fall_at heard g k ≢ 0) →
    option_map_or (λ g. start_after heard k (λ r. approach_start_at heard k r) q g (heard g)) o q ≡ q
itself heard k q None h = refl
itself heard k q (Some g) h = itself_at heard k g q (heard g) (λ r e. h g r refl e)

pub approach_start_at-itself : (heard : ℕ → Heard) (k : ℕ) (q : Fields) → is_anchor (heard (suc k)) ≡ true →
    ((g : ℕ) (r : Fields) → IsNoise heard k g r → fall_at heard g k ≢ 0) → approach_start_at heard (suc k) q ≡ q
approach_start_at-itself heard k q a h = at_anchor heard k q a ∙ itself heard k q (latest_anchor heard k) (λ g r e f. h g r (e, f))
