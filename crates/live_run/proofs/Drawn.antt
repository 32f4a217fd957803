-- What a caller draws for its calls, and the numbers of its posts.
use Rattle.std.proofs.Common.{◌≡◌, ◌≢◌, ℕ, ◌+◌, ◌%◌, true, false, List, [], ◌∷◌, ◌++◌, length, map}
use Rattle.std.proofs.Common.{refl, ap, ◌∙◌, arith}
use Rattle.std.specs.Prelude.{◌==◌}
use Rattle.std.specs.List.{range_with_len}
use Rattle.std.proofs.lemmas.Bool.{eq-eqb, ne_eqb}
use Rattle.std.proofs.lemmas.List.FromFn.{map-range_with_len_more, length-map-range_with_len}
use Rattle.farm_drill.specs.Uplink.{up_octets}
use Rattle.farm_drill.specs.Lines.{pcm_octets}
use Rattle.farm_live.specs.declared.post.Post.{Post}
use Rattle.farm_live.specs.declared.slot.View.{View}
use Rattle.farm_live.specs.Book.{of_caller}
use Rattle.farm_live.specs.Live.{next_post}
use Rattle.live_run.specs.Posts.{drawn_post, drawn_posts, own_of}

-- ---- a call of one's own

pub own_is : (callers caller k n : ℕ) → k % callers ≡ caller → own_of callers caller k n ≡ n
own_is callers caller k n e = let t : (k % callers == caller) ≡ true = eq-eqb (k % callers) caller e in rw t refl

pub own_none : (callers caller k n : ℕ) → k % callers ≢ caller → own_of callers caller k n ≡ 0
own_none callers caller k n ne = let t : (k % callers == caller) ≡ false = ne_eqb (k % callers) caller ne in rw t refl

-- ---- drawn posts

pub length-drawn : (seed caller call n : ℕ) → length (drawn_posts seed caller call n) ≡ n
unfolding drawn_posts
length-drawn seed caller call n = length-map-range_with_len (drawn_post seed caller call) 0 n

pub drawn_more : (seed caller call n : ℕ) → drawn_posts seed caller call (n + 1)
    ≡ drawn_posts seed caller call n ++ drawn_post seed caller call n ∷ []
unfolding drawn_posts
drawn_more seed caller call n = map-range_with_len_more (drawn_post seed caller call) 0 n n (omega arith)

of_itself : (seed caller call : ℕ) (ns : List ℕ) → of_caller caller (map (drawn_post seed caller call) ns) ≡ map (drawn_post seed caller call) ns
of_itself seed caller call [] = refl
of_itself seed caller call (n ∷ ns) =
    let t : (caller == caller) ≡ true = eq-eqb caller caller refl in
    rw t (ap (λ (ps : List Post). drawn_post seed caller call n ∷ ps) (of_itself seed caller call ns))

of_another : (seed caller call c : ℕ) (ns : List ℕ) → caller ≢ c → of_caller c (map (drawn_post seed caller call) ns) ≡ []
of_another seed caller call c [] ne = refl
of_another seed caller call c (n ∷ ns) ne =
    let t : (caller == c) ≡ false = ne_eqb caller c ne in
    rw t (of_another seed caller call c ns ne)

pub drawn_of : (seed caller call n : ℕ) → of_caller caller (drawn_posts seed caller call n) ≡ drawn_posts seed caller call n
unfolding drawn_posts
drawn_of seed caller call n = of_itself seed caller call (range_with_len 0 n)

pub drawn_of_none : (seed caller call c n : ℕ) → caller ≢ c → of_caller c (drawn_posts seed caller call n) ≡ []
unfolding drawn_posts
drawn_of_none seed caller call c n ne = of_another seed caller call c (range_with_len 0 n) ne

pub none_drawn : (seed caller call : ℕ) → drawn_posts seed caller call 0 ≡ []
unfolding drawn_posts
none_drawn seed caller call = refl

-- the next post of one that made the first n is that of period n
pub next_is : (seed caller call n : ℕ) (up pcm : List ℕ) (v : View) → v.made ≡ drawn_posts seed caller call n → up ≡ up_octets seed call n →
    pcm ≡ pcm_octets seed call n → next_post caller up pcm v ≡ drawn_post seed caller call n
next_is seed caller call n up pcm v made p q =
    let m : length (of_caller caller v.made) ≡ n =
    ap (λ (ms : List Post). length (of_caller caller ms)) made ∙ ap length (drawn_of seed caller call n) ∙ length-drawn seed caller call n in
    λ i. record { caller = caller; number = m i; up = p i; pcm = q i }
