-- A book that was taken and is given back: with nothing new, with a post more, and with its first post worked.
use Rattle.std.proofs.Common.{◌≡◌, ℕ, ◌*◌, ◌<◌, ◌≤◌, true, false, ◌==◌, List, [], ◌∷◌, ◌++◌, length, drop, map, sym, refl, ap, ⊎_elim, ◌∙◌, subst, append_assoc}
use Rattle.std.proofs.Common.{append-nil, length-append, inl, arith}
use mathlib.Core.Bool.{cond}
use Rattle.std.proofs.Math.Seq.{drop-append_seam}
use Rattle.std.proofs.lemmas.List.{map-append}
use Rattle.std.proofs.Math.Seq.{drop-length}
use Rattle.std.proofs.lemmas.Bool.{cases_Bool, eqb-true, eq-eqb}
use Rattle.farm_live.specs.declared.post.Post.{Post}
use Rattle.farm_live.specs.declared.post.Entry.{Entry}
use Rattle.farm_live.specs.declared.slot.View.{View}
use Rattle.farm_live.specs.Book.{BookState, record_of, of_caller, NumberedFrom, IsLegal, with_post, Worked}
use Rattle.trau_num.specs.Weights.{weigh}
use Rattle.farm_live.specs.Slot.{times, bit, number_of_callers, is_at, BeginsWith, BookTells, added, took, gave, May}
use Rattle.farm_live.specs.Turns.{Held, Turned, HasWorkedPost}

-- it was given back with these posts more
turned_from : (v : View) (b back : BookState) (more : List Post) → Held v (took v b) → back.is_of ≡ b.is_of → added (took v b) back ≡ more →
    Turned v (gave (took v b) back) back more
turned_from v b back more h is_of new = record {
  took = record {
    takings = h.takings;
    misses = h.misses;
    callers = h.callers;
    is_of = h.is_of;
    begins = h.begins;
    legal = h.legal;
    numbered = h.numbered;
    made = h.made;
    few = h.few;
    mine = h.mine;
  };
  free = refl;
  is_of = is_of ∙ h.is_of;
  seen = refl;
  made = ap (λ l. v.made ++ l) new;
}

-- a book that has grown begins with what it was
begins_as : (b back : BookState) (grown : List Entry) (more : List Post) → back.history ≡ b.history ++ grown → record_of back ≡ record_of b ++ more →
    BeginsWith back b
begins_as b back grown more p q = record { history = (grown, p); posts = (more, q) }

-- the posts that were added
new_are : (v : View) (b back : BookState) (more : List Post) → record_of back ≡ record_of b ++ more → added (took v b) back ≡ more
new_are v b back more q = ap (drop (length (record_of b))) q ∙ drop-append_seam (record_of b) more

-- ---- nothing is new

nothing_new : (v : View) (b back : BookState) → record_of back ≡ record_of b → added (took v b) back ≡ []
nothing_new v b back q = ap (drop (length (record_of b))) q ∙ drop-length (record_of b)

-- a book may be given back when posts of it were worked
may_without : (v : View) (b back : BookState) (grown : List Entry) → Held v (took v b) → back.is_of ≡ b.is_of → back.history ≡ b.history ++ grown →
    record_of back ≡ record_of b → May (took v b) back
may_without v b back grown h is_of p q =
    let none = nothing_new v b back q in record {
      begins = begins_as b back grown [] p (q ∙ sym (append-nil (record_of b)));
      own = λ c _. ap (of_caller c) none;
      numbered = λ c. subst (λ l. NumberedFrom (length (of_caller c v.made)) (of_caller c l)) (sym none) tt;
      few = subst (λ l. length (v.made ++ l) ≤ 16777216 * number_of_callers v) (sym none) (subst (λ l. length l ≤ 16777216 * number_of_callers v)
          (sym (append-nil v.made)) h.mine);
      is_of = inl (is_of, sym h.is_of);
    }

-- a book may be given back as it was taken
pub may_same : (v : View) (b : BookState) → Held v (took v b) → May (took v b) b
may_same v b h = may_without v b b [] h refl (sym (append-nil b.history)) refl

pub turned_same : (v : View) (b : BookState) → Held v (took v b) → Turned v (gave (took v b) b) b []
turned_same v b h = turned_from v b b [] h refl (nothing_new v b b refl)

-- ---- a post is new

posted_record : (b : BookState) (x : Post) → record_of (with_post b x) ≡ record_of b ++ x ∷ []
unfolding record_of
posted_record b x = sym (append_assoc (map (λ e. e.post) b.history) b.inbox (x ∷ []))

-- the posts of its caller are that post, and those of others none
one_of : (c : ℕ) (x : Post) → x.caller ≡ c → of_caller c (x ∷ []) ≡ x ∷ []
one_of c x e = ap (λ t. cond t (x ∷ []) []) (eq-eqb x.caller c e)

none_of : (c : ℕ) (x : Post) → (x.caller == c) ≡ false → of_caller c (x ∷ []) ≡ []
none_of c x e = ap (λ t. cond t (x ∷ []) []) e

-- a caller of the view made it
own_post : (v : View) (x : Post) → 0 < times x.caller v.callers → (c : ℕ) → times c v.callers ≡ 0 → of_caller c (x ∷ []) ≡ []
own_post v x mine c none = ⊎_elim (λ (e : (x.caller == c) ≡ true). absurd (let s : times x.caller v.callers ≡ times c v.callers = ap (λ k. times k v.callers)
    (eqb-true x.caller c e) in omega arith)) (none_of c x) (cases_Bool (x.caller == c))

-- it is numbered on
next_number : (v : View) (x : Post) → x.number ≡ length (of_caller x.caller v.made) → (c : ℕ) → NumberedFrom (length (of_caller c v.made))
    (of_caller c (x ∷ []))
next_number v x number c =
    ⊎_elim (λ (e : (x.caller == c) ≡ true). let s = eqb-true x.caller c e in subst (NumberedFrom (length (of_caller c v.made))) (sym (one_of c x s))
    (number ∙ ap (λ k. length (of_caller k v.made)) s, tt))
    (λ (e : (x.caller == c) ≡ false). subst (NumberedFrom (length (of_caller c v.made))) (sym (none_of c x e)) tt) (cases_Bool (x.caller == c))

-- a view's caller is one of its callers
times-le : (c : ℕ) (ds : List ℕ) → times c ds ≤ weigh (λ _. 1) ds
times-le c [] = omega arith
times-le c (d ∷ ds) = ⊎_elim (λ (e : (d == c) ≡ true). let q : is_at c d ≡ 1 = ap bit e in omega (arith, times-le c ds))
    (λ (e : (d == c) ≡ false). let q : is_at c d ≡ 0 = ap bit e in omega (arith, times-le c ds)) (cases_Bool (d == c))

-- a caller makes at most so many posts
one_post_more : (v : View) (x : Post) → 0 < times x.caller v.callers → length v.made < 16777216 → length (v.made ++ x ∷ []) ≤ 16777216 * number_of_callers v
one_post_more v x mine few =
    let one = times-le x.caller v.callers in
    let long = length-append v.made (x ∷ []) in
    omega arith

-- a book may be given back with one more post of a caller, which has the next number
pub may_post : (v : View) (b : BookState) (x : Post) → Held v (took v b) → 0 < times x.caller v.callers → x.number ≡ length (of_caller x.caller v.made) →
    length v.made < 16777216 →
    May (took v b) (with_post b x)
may_post v b x h mine number few =
    let one = new_are v b (with_post b x) (x ∷ []) (posted_record b x) in record {
      begins = begins_as b (with_post b x) [] (x ∷ []) (sym (append-nil b.history)) (posted_record b x);
      own = λ c none. ap (of_caller c) one ∙ own_post v x mine c none;
      numbered = λ c. subst (λ l. NumberedFrom (length (of_caller c v.made)) (of_caller c l)) (sym one) (next_number v x number c);
      few = subst (λ l. length (v.made ++ l) ≤ 16777216 * number_of_callers v) (sym one) (one_post_more v x mine few);
      is_of = inl (refl, sym h.is_of);
    }

pub turned_post : (v : View) (b : BookState) (x : Post) → Held v (took v b) → Turned v (gave (took v b) (with_post b x)) (with_post b x) (x ∷ [])
turned_post v b x h = turned_from v b (with_post b x) (x ∷ []) h refl (new_are v b (with_post b x) (x ∷ []) (posted_record b x))

-- ---- the first post is worked

worked_record : (b back : BookState) (e : Entry) → Worked b e back → record_of back ≡ record_of b
unfolding record_of
worked_record b back e w =
    ap (λ l. map (λ (x : Entry). x.post) l ++ back.inbox) w.history
    ∙ ap (λ l. l ++ back.inbox) (map-append (λ (x : Entry). x.post) b.history (e ∷ []))
    ∙ append_assoc (map (λ (x : Entry). x.post) b.history) (e.post ∷ []) back.inbox
    ∙ ap (λ l. map (λ (x : Entry). x.post) b.history ++ l) (ap (λ l. e.post ∷ l) w.first.2 ∙ sym w.first.1)

-- a book may be given back of which the first post was worked
pub may_work : (v : View) (b back : BookState) (e : Entry) → Held v (took v b) → Worked b e back → May (took v b) back
may_work v b back e h w = may_without v b back (e ∷ []) h w.is_of w.history (worked_record b back e w)

-- so it was worked
pub did_work : (v : View) (b back : BookState) (e : Entry) → Held v (took v b) → Worked b e back → IsLegal back.is_of.call back.history →
    HasWorkedPost v (gave (took v b) back) e
did_work v b back e h w
    legal = record { back = back; worked = w; legal = legal; turned = turned_from v b back [] h w.is_of (nothing_new v b back (worked_record b back e w)) }
