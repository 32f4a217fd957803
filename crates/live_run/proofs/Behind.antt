-- A caller and its generators, period by period.
use Rattle.std.proofs.Common.{◌≡◌, ◌≢◌, ℕ, ◌+◌, ◌%◌, ◌<◌, ◌≤◌, Bool, true, false, inl, inr, Result, Ok, Err, List, [], ◌∷◌, ◌++◌, length, take, drop}
use Rattle.std.proofs.Common.{get_or, set, refl, sym, ap, ◌∙◌, subst, ⊎_elim, get_or-set_same, get_or-set_other, arith}
use Rattle.std.specs.Prelude.{◌==◌, nat_lt, if◌then◌else◌, OnOk}
use Rattle.std.proofs.Math.ListN.{length-set}
use Rattle.std.proofs.lemmas.Bool.{lt-ltb, le-ltb, cases_eq, cases_lt}
use Rattle.farm_drill.specs.Draws.{draw_state, first_draw}
use Rattle.farm_drill.specs.Uplink.{up_octets}
use Rattle.farm_drill.specs.Lines.{pcm_octets}
use Rattle.farm_drill.specs.declared.draws.Generator.{Generator}
use Rattle.farm_live.specs.declared.slot.View.{View}
use Rattle.farm_live.specs.declared.live.Seat.{Seat}
use Rattle.farm_live.specs.declared.live.Caller.{Caller}
use Rattle.farm_live.specs.Live.{view_of, next_post}
use Rattle.trau_num.proofs.Lists.{written_back}
use Rattle.live_run.specs.Posts.{drawn_posts, own_of, Knows, IsDrawn, GainsPost, MovesSeat, IsBehind, HasPosted}
use Rattle.live_run.proofs.Drawn.{own_is, own_none, length-drawn, drawn_more, next_is}

-- ---- one call

pub few_made : (seed callers caller k n : ℕ) (v : View) → k % callers ≡ caller → Knows seed callers caller k n v → length v.made ≡ n
few_made seed callers caller k n v own knows =
    ap length knows.made ∙ ap (λ (m : ℕ). length (drawn_posts seed caller (k + 1) m)) (own_is callers caller k n own) ∙ length-drawn seed caller (k + 1) n

pub draws_at : (seed callers caller k n : ℕ) (g : Generator) → k % callers ≡ caller → IsDrawn seed callers caller k n g →
    g.x ≡ draw_state seed (k + 1) (first_draw n)
draws_at seed callers caller k n g own drawn = drawn ∙ ap (λ (m : ℕ). draw_state seed (k + 1) (first_draw m)) (own_is callers caller k n own)

pub drawn_at : (seed callers caller k n : ℕ) (g : Generator) → k % callers ≡ caller → g.x ≡ draw_state seed (k + 1) (first_draw n) →
    IsDrawn seed callers caller k n g
drawn_at seed callers caller k n g own x = x ∙ ap (λ (m : ℕ). draw_state seed (k + 1) (first_draw m)) (sym (own_is callers caller k n own))

knows_more : (seed callers caller k n : ℕ) (up pcm : List ℕ) (v w : View) → k % callers ≡ caller → up ≡ up_octets seed (k + 1) n →
    pcm ≡ pcm_octets seed (k + 1) n → Knows seed callers caller k n v → GainsPost (next_post caller up pcm v) v w →
    Knows seed callers caller k (n + 1) w
knows_more seed callers caller k n up pcm v w own p q knows gains =
    let call = k + 1 in
    let made : v.made ≡ drawn_posts seed caller call n = knows.made ∙ ap (drawn_posts seed caller call) (own_is callers caller k n own) in
    let next = next_is seed caller call n up pcm v made p q in
    let all = own_is callers caller k (n + 1) own in record {
      made = gains.made ∙ (λ i. made i ++ next i ∷ []) ∙ sym (drawn_more seed caller call n) ∙ ap (drawn_posts seed caller call) (sym all);
      numbers = gains.callers ∙ knows.numbers;
    }

none_more : (callers caller k n m : ℕ) → k % callers ≢ caller → own_of callers caller k n ≡ own_of callers caller k m
none_more callers caller k n m other = own_none callers caller k n other ∙ sym (own_none callers caller k m other)

knows_still : (seed callers caller k n m : ℕ) (v : View) → k % callers ≢ caller → Knows seed callers caller k n v → Knows seed callers caller k m v
knows_still seed callers caller k n m v other knows =
    record { made = knows.made ∙ ap (drawn_posts seed caller (k + 1)) (none_more callers caller k n m other); numbers = knows.numbers }

pub drawn_still : (seed callers caller k n m : ℕ) (g : Generator) → k % callers ≢ caller →
    IsDrawn seed callers caller k n g → IsDrawn seed callers caller k m g
drawn_still seed callers caller k n m g other drawn = drawn ∙ ap (λ (j : ℕ). draw_state seed (k + 1) (first_draw j)) (none_more callers caller k n m other)

-- at a call that isn't one's own
pub not_own : (seed callers k n : ℕ) (c : Caller) → k % callers ≢ c.number →
    ((s : Seat) → Knows seed callers c.number k n (view_of (get_or c.seats.items k s))) →
    MovesSeat (λ _ w. Knows seed callers c.number k (n + 1) w) k c c
not_own seed callers k n c other all = record {
  number = refl;
  this = λ s. knows_still seed callers c.number k n (n + 1) (view_of (get_or c.seats.items k s)) other (all s);
  others = λ j s ne. refl;
}

own_posted : (seed callers k n : ℕ) (up pcm : List ℕ) (c d : Caller) → k % callers ≡ c.number → up ≡ up_octets seed (k + 1) n →
    pcm ≡ pcm_octets seed (k + 1) n → ((s : Seat) → Knows seed callers c.number k n (view_of (get_or c.seats.items k s))) →
    MovesSeat (λ v w. GainsPost (next_post c.number up pcm v) v w) k c d → MovesSeat (λ _ w. Knows seed callers c.number k (n + 1) w) k c d
own_posted seed callers k n up pcm c d own p q all m = record {
  number = m.number;
  this = λ s. knows_more seed callers c.number k n up pcm (view_of (get_or c.seats.items k s)) (view_of (get_or d.seats.items k s)) own p q (all s) (m.this s);
  others = m.others;
}

pub on_ok : {A E : Type 0} (P Q : Type 0) (r : Result A E) → (P → Q) → OnOk r P → OnOk r Q
on_ok P Q (Ok x) f h = f h
on_ok P Q (Err e) f h = h

pub own_posted_ok : {A E : Type 0} (r : Result A E) (seed callers k n : ℕ) (up pcm : List ℕ) (c d : Caller) → k % callers ≡ c.number →
    up ≡ up_octets seed (k + 1) n → pcm ≡ pcm_octets seed (k + 1) n →
    ((s : Seat) → Knows seed callers c.number k n (view_of (get_or c.seats.items k s))) →
    OnOk r (MovesSeat (λ v w. GainsPost (next_post c.number up pcm v) v w) k c d) →
    OnOk r (MovesSeat (λ _ w. Knows seed callers c.number k (n + 1) w) k c d)
own_posted_ok r seed callers k n up pcm c d own p q all =
    on_ok (MovesSeat (λ v w. GainsPost (next_post c.number up pcm v) v w) k c d) (MovesSeat (λ _ w. Knows seed callers c.number k (n + 1) w) k c d) r
    (own_posted seed callers k n up pcm c d own p q all)

pub always_ok : {A E : Type 0} (P : Type 0) (r : Result A E) → P → OnOk r P
always_ok P (Ok x) h = h
always_ok P (Err e) h = tt

-- ---- all calls

-- n periods of each call, and one more of the first `first` ones
abbrev pub and_more : ℕ → ℕ → ℕ → ℕ
and_more n first k = if nat_lt k first then n + 1 else n

more_before : (n k first : ℕ) → k < first → and_more n first k ≡ n + 1
more_before n k first h = let t : nat_lt k first ≡ true = lt-ltb k first h in rw t refl

more_behind : (n k first : ℕ) → first ≤ k → and_more n first k ≡ n
more_behind n k first h = let t : nat_lt k first ≡ false = le-ltb k first h in rw t refl

more_else : (n k first : ℕ) → k ≢ first → and_more n first k ≡ and_more n (first + 1) k
more_else n k first ne = elim (cases_lt k first) [
  | inl lt ↦ more_before n k first lt ∙ sym (more_before n k (first + 1) (omega arith))
  | inr le ↦ let lt : first + 1 ≤ k = omega (arith, le, ne) in more_behind n k first le ∙ sym (more_behind n k (first + 1) lt)
]

nothing : (b : Bool) → ◌≡◌ {A = ℕ} (if b then 0 else 0) 0
nothing true = refl
nothing false = refl

pub own_zero : (callers caller k : ℕ) → own_of callers caller k 0 ≡ 0
own_zero callers caller k = nothing (k % callers == caller)

module _ (seed calls callers caller : ℕ) where
  behind_as : (f g : ℕ → ℕ) (c : Caller) (gs : List Generator) → ((k : ℕ) → k < calls → f k ≡ g k) → IsBehind seed calls callers caller f c gs →
      IsBehind seed calls callers caller g c gs
  behind_as f g c gs same b = record {
    number = b.number;
    one_each = b.one_each;
    knows = λ k s h. subst (λ (n : ℕ). Knows seed callers caller k n (view_of (get_or c.seats.items k s))) (same k h) (b.knows k s h);
    draws = λ k d h. subst (λ (n : ℕ). IsDrawn seed callers caller k n (get_or gs k d)) (same k h) (b.draws k d h);
  }

  pub round_begins : (n : ℕ) (c : Caller) (gs : List Generator) → IsBehind seed calls callers caller (λ _. n) c gs →
      IsBehind seed calls callers caller (and_more n 0) c gs
  round_begins n c gs b = behind_as (λ _. n) (and_more n 0) c gs (λ k h. sym (more_behind n k 0 (omega arith))) b

  pub round_ends : (n first : ℕ) (c : Caller) (gs : List Generator) → first ≡ calls → IsBehind seed calls callers caller (and_more n first) c gs →
      IsBehind seed calls callers caller (λ _. n + 1) c gs
  round_ends n first c gs e b = behind_as (and_more n first) (λ _. n + 1) c gs (λ k h. more_before n k first (omega (arith, h, e))) b

  -- the call whose turn it is, by the number that the caller has now
  pub knows_here : (n k : ℕ) (c : Caller) (gs : List Generator) → k < calls → IsBehind seed calls callers caller (and_more n k) c gs →
      (s : Seat) → Knows seed callers c.number k n (view_of (get_or c.seats.items k s))
  knows_here n k c gs there b s =
      subst (λ (x : ℕ). Knows seed callers x k n (view_of (get_or c.seats.items k s))) (sym b.number)
      (subst (λ (x : ℕ). Knows seed callers caller k x (view_of (get_or c.seats.items k s))) (more_behind n k k (omega arith)) (b.knows k s there))

  pub drawn_here : (n k : ℕ) (c : Caller) (gs : List Generator) (g : Generator) → k < calls → IsBehind seed calls callers caller (and_more n k) c gs →
      IsDrawn seed callers c.number k n (get_or gs k g)
  drawn_here n k c gs g there b =
      subst (λ (x : ℕ). IsDrawn seed callers x k n (get_or gs k g)) (sym b.number)
      (subst (λ (x : ℕ). IsDrawn seed callers caller k x (get_or gs k g)) (more_behind n k k (omega arith)) (b.draws k g there))

  pub one_more : (n k : ℕ) (c d : Caller) (gs : List Generator) (h : Generator) → k < calls → IsBehind seed calls callers caller (and_more n k) c gs →
      MovesSeat (λ _ w. Knows seed callers c.number k (n + 1) w) k c d → IsDrawn seed callers c.number k (n + 1) h →
      IsBehind seed calls callers caller (and_more n (k + 1)) d (set gs k h)
  one_more n k c d gs h there b m drawn =
      let last : n + 1 ≡ and_more n (k + 1) k = sym (more_before n k (k + 1) (omega arith)) in record {
        number = m.number ∙ b.number;
        one_each = length-set gs k h ∙ b.one_each;
        knows = λ j s lt. ⊎_elim
            (λ (e : j ≡ k).
            let now : Knows seed callers caller k (n + 1) (view_of (get_or d.seats.items k s)) =
            subst (λ (x : ℕ). Knows seed callers x k (n + 1) (view_of (get_or d.seats.items k s))) b.number (m.this s) in
            subst (λ (i : ℕ). Knows seed callers caller i (and_more n (k + 1) i) (view_of (get_or d.seats.items i s))) (sym e)
            (subst (λ (x : ℕ). Knows seed callers caller k x (view_of (get_or d.seats.items k s))) last now))
            (λ (ne : j ≢ k).
            subst (λ (x : ℕ). Knows seed callers caller j x (view_of (get_or d.seats.items j s))) (more_else n j k ne)
            (subst (λ (t : Seat). Knows seed callers caller j (and_more n k j) (view_of t)) (sym (m.others j s ne)) (b.knows j s lt)))
            (cases_eq j k);
        draws = λ j g lt. ⊎_elim
            (λ (e : j ≡ k).
            let now : IsDrawn seed callers caller k (n + 1) h = subst (λ (x : ℕ). IsDrawn seed callers x k (n + 1) h) b.number drawn in
            subst (λ (i : ℕ). IsDrawn seed callers caller i (and_more n (k + 1) i) (get_or (set gs k h) i g)) (sym e)
            (subst (IsDrawn seed callers caller k (and_more n (k + 1) k)) (sym (get_or-set_same gs k h g (omega (arith, there, b.one_each))))
            (subst (λ (x : ℕ). IsDrawn seed callers caller k x h) last now)))
            (λ (ne : j ≢ k).
            subst (λ (x : ℕ). IsDrawn seed callers caller j x (get_or (set gs k h) j g)) (more_else n j k ne)
            (subst (IsDrawn seed callers caller j (and_more n k j)) (sym (get_or-set_other gs k j h g ne)) (b.draws j g lt)))
            (cases_eq j k);
      }

  pub posted_all : (n m : ℕ) (c : Caller) (gs : List Generator) → n ≡ m → IsBehind seed calls callers caller (λ _. n) c gs →
      HasPosted seed calls callers m caller c
  posted_all n m c gs e b = subst (λ (x : ℕ). HasPosted seed calls callers x caller c) e (record { number = b.number; each = b.knows })

  pub first_behind : (c : Caller) (gs : List Generator) → HasPosted seed calls callers 0 caller c → length gs ≡ calls →
      ((k : ℕ) (g : Generator) → k < calls → (get_or gs k g).x ≡ draw_state seed (k + 1) 0) → IsBehind seed calls callers caller (λ _. 0) c gs
  first_behind c gs posted len first = record {
    number = posted.number;
    one_each = len;
    knows = posted.each;
    draws = λ k g h. first k g h ∙ ap (λ (m : ℕ). draw_state seed (k + 1) (first_draw m)) (sym (own_zero callers caller k));
  }

-- by the number that the caller has now
pub renumbered : (seed calls callers caller : ℕ) (f : ℕ → ℕ) (c : Caller) (gs hs : List Generator) →
    hs ≡ gs → IsBehind seed calls callers caller f c gs → IsBehind seed calls callers c.number f c hs
renumbered seed calls callers caller f c gs hs e b =
    subst (IsBehind seed calls callers c.number f c) (sym e)
    (subst (λ (i : ℕ). IsBehind seed calls callers i f c gs) (sym b.number) b)

-- behind a round, whose generators were lent
pub after_round : (seed calls callers caller : ℕ) (f g : ℕ → ℕ) (c d : Caller) (before gs : List Generator) (n : ℕ) → n ≡ length before →
    IsBehind seed calls callers caller f c before → IsBehind seed calls callers c.number g d gs →
    IsBehind seed calls callers caller g d (take n (gs ++ drop (length gs) before))
after_round seed calls callers caller f g c d before gs n long b after =
    let len : length gs ≡ n = after.one_each ∙ sym b.one_each ∙ sym long in
    subst (IsBehind seed calls callers caller g d) (sym (written_back gs (drop (length gs) before) n len))
    (subst (λ (i : ℕ). IsBehind seed calls callers i g d gs) b.number after)
