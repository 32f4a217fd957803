-- What is closed where each caller posted all and the last posts were seen.
use Rattle.std.proofs.Common.{◌≡◌, ℕ, ◌+◌, ◌-◌, ◌%◌, ◌<◌, ◌≤◌, Some, List, [], ◌∷◌, length, map, find, reverse, get_or, refl, sym, ap, ◌∙◌, subst, append-nil}
use Rattle.std.proofs.Common.{arith}
use Rattle.std.specs.List.{flat_map}
use Rattle.std.proofs.Math.Nat.{mod-lt}
use Rattle.farm_live.specs.declared.post.Post.{Post}
use Rattle.farm_live.specs.declared.post.Entry.{Entry}
use Rattle.farm_live.specs.declared.slot.View.{View}
use Rattle.farm_live.specs.declared.live.Seat.{Seat}
use Rattle.farm_live.specs.declared.live.Caller.{Caller}
use Rattle.farm_live.specs.declared.live.Closed.{Closed}
use Rattle.farm_live.specs.Book.{BookState, record_of, of_caller, NumberedFrom, is_of_post}
use Rattle.farm_live.specs.Slot.{is_at, times, all_callers, BeginsWith, AllSeen}
use Rattle.farm_live.specs.Live.{view_of, numbers_of}
use Rattle.farm_live.specs.Closing.{view_at, views_at, IsClosedBy}
use Rattle.live_run.specs.Posts.{drawn_posts, Knows, HasPosted, SawAll}
use Rattle.live_run.proofs.Drawn.{own_is, own_none, drawn_of, none_drawn}
use Rattle.live_run.proofs.Known.{flat_flat, one_in, one_view, seen_in, weight_in, whose}
use Rattle.live_run.proofs.Worked.{all_worked, record_is}

module _ (seed calls callers periods : ℕ) (cs : List Caller) (d : Caller) (k : ℕ) where
  -- what is known of the callers of a live drill at its end, and of this call
  pub record Ending : Type 0 where
    pub some_callers : 1 ≤ callers
    pub few_callers : callers ≤ 64
    pub some_periods : 1 ≤ periods
    pub count : length cs ≡ callers
    pub seats : (i : ℕ) → i < callers → length (get_or cs i d).seats.items ≡ calls
    pub posted : (i : ℕ) → i < callers → HasPosted seed calls callers periods i (get_or cs i d)
    pub saw : SawAll callers (periods - 1) calls (get_or cs 0 d)
    pub there : k < calls

  module _ (x : Ending) where
    -- the one view that a caller has of the call
    view_is : (i : ℕ) → i < callers → (s : Seat) × (view_at k (get_or cs i d) ≡ view_of (get_or (get_or cs i d).seats.items k s) ∷ [])
    view_is i h = let there = x.there in one_view (get_or cs i d).seats.items k (omega (arith, there, x.seats i h))

    -- The parts of that view are all that the caller knows of the call.
    part : {A : Type 0} (f : View → List A) (i : ℕ) (h : i < callers) → flat_map f (view_at k (get_or cs i d))
        ≡ f (view_of (get_or (get_or cs i d).seats.items k (view_is i h).0))
    part f i h = ap (flat_map f) (view_is i h).1 ∙ append-nil (f (view_of (get_or (get_or cs i d).seats.items k (view_is i h).0)))

    -- what each caller knows of the call
    knows : (i : ℕ) (h : i < callers) → Knows seed callers i k periods (view_of (get_or (get_or cs i d).seats.items k (view_is i h).0))
    knows i h = (x.posted i h).each k (view_is i h).0 x.there

    -- the call is one caller's
    owner : k % callers < callers
    owner = let some = x.some_callers in mod-lt k (omega arith)

    -- the posts that all callers made are its owner's
    made_is : flat_map (λ (u : View). u.made) (views_at k (reverse cs)) ≡ drawn_posts seed (k % callers) (k + 1) periods
    made_is =
        let f : View → List Post = λ u. u.made in
        let h : Caller → List Post = λ c. flat_map f (view_at k c) in
        let o = k % callers in
        let count = x.count in
        flat_flat f (view_at k) (reverse cs)
        ∙ one_in h cs o d (drawn_posts seed o (k + 1) periods) (omega (arith, owner, count))
        (part f o owner ∙ (knows o owner).made ∙ ap (drawn_posts seed o (k + 1)) (own_is callers o k periods refl))
        (λ i lt ne.
        let mine : i < callers = omega (arith, lt, count) in
        part f i mine ∙ (knows i mine).made ∙ ap (drawn_posts seed i (k + 1)) (own_none callers i k periods (λ (e : k % callers ≡ i). ne (sym e)))
        ∙ none_drawn seed i (k + 1))

    -- all numbers of callers were given
    callers_all : (c : ℕ) → 0 < times c all_callers → 0 < times c (flat_map (λ (u : View). u.callers) (views_at k (reverse cs)))
    callers_all c known =
        let f : View → List ℕ = λ u. u.callers in
        let h : Caller → List ℕ = λ c. flat_map f (view_at k c) in
        let w = whose callers c x.some_callers x.few_callers known in
        let i = w.0 in
        let count = x.count in
        let numbers : h (get_or cs i d) ≡ numbers_of callers i = part f i w.1 ∙ (knows i w.1).numbers in
        let le = weight_in (is_at c) h cs i d (omega (arith, w.1, count)) in
        omega (arith, w.2, le, ap (times c) numbers, ap (times c) (flat_flat f (view_at k) (reverse cs)))

    -- what the calling thread saw last
    saw_last : (b : BookState) → AllSeen b (flat_map (λ (u : View). u.seen) (views_at k (reverse cs))) →
        (known : BookState) × (e : Entry) × BeginsWith b known × (find (is_of_post (k % callers) (periods - 1)) known.history ≡ Some e)
    saw_last b all =
        let f : View → List BookState = λ u. u.seen in
        let h : Caller → List BookState = λ c. flat_map f (view_at k c) in
        let some = x.some_callers in
        let count = x.count in
        let first : 0 < callers = omega (arith, some) in
        let v = view_is 0 first in
        let saw = x.saw k v.0 x.there in
        let here = seen_in b h cs 0 d (omega (arith, first, count)) (subst (AllSeen b) (flat_flat f (view_at k) (reverse cs)) all) in
        (saw.0, saw.1, (subst (AllSeen b) (part f 0 first ∙ saw.2) here).0, saw.3)

    -- all posts of the call were worked, and nothing is left
    pub posts_are : (call : ℕ) (closed : Closed) → IsClosedBy call (views_at k (reverse cs)) closed →
        map (λ e. e.post) closed.entries.items ≡ drawn_posts seed (k % callers) (k + 1) periods
    posts_are call closed by =
        let v = by.0 in
        let all = by.1 in
        let b = by.2.0 in
        let closes = by.2.1 in
        let o = k % callers in
        let made : v.made ≡ drawn_posts seed o (k + 1) periods = all.made ∙ made_is in
        let numbers : (c : ℕ) → 0 < times c all_callers → 0 < times c v.callers =
        λ c known. subst (λ (ns : List ℕ). 0 < times c ns) (sym all.callers) (callers_all c known) in
        let is = record_is v b seed o (k + 1) periods closes made numbers in
        let numbered : NumberedFrom 0 (record_of b) =
        subst (NumberedFrom 0) (ap (of_caller o) is ∙ drawn_of seed o (k + 1) periods ∙ sym is) (closes.numbered o) in
        let saw = saw_last b (subst (AllSeen b) all.seen closes.begins) in
        ap (λ (es : List Entry). map (λ e. e.post) es) by.2.3 ∙ all_worked seed o (k + 1) periods b saw.0 saw.1 x.some_periods is numbered saw.2 saw.3
