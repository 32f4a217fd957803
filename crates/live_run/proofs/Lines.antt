-- The lines of closed calls are those of the calls as a whole.
use Rattle.std.proofs.Common.{◌≡◌, ℕ, suc, ◌+◌, ◌%◌, ◌<◌, List, [], ◌∷◌, ◌++◌, length, map, replicate, get_or, reverse}
use Rattle.std.proofs.Common.{refl, ap, ◌∙◌, arith}
use Rattle.std.specs.List.{range_with_len, flat_map}
use Rattle.std.proofs.lemmas.List.Folds.{flat_map-map}
use Rattle.std.proofs.lemmas.List.FromFn.{length-map-range_with_len}
use Rattle.trau_bits.specs.Bits.{bits_of, octets_of}
use Rattle.call_spec.specs.Out.{out}
use Rattle.call_spec.specs.Down.{down}
use Rattle.farm_report.specs.Sums.{sum_line}
use Rattle.farm_drill.specs.Lines.{up_line, pcm_line}
use Rattle.farm_live.specs.declared.post.Post.{Post}
use Rattle.farm_live.specs.declared.post.Entry.{Entry}
use Rattle.farm_live.specs.declared.live.Caller.{Caller}
use Rattle.farm_live.specs.declared.live.Closed.{Closed}
use Rattle.farm_live.specs.Book.{who_at, IsLegal}
use Rattle.farm_live.specs.Closing.{views_at, IsClosedBy, AreClosed}
use Rattle.live_run.specs.Posts.{drawn_post, drawn_posts}
use Rattle.farm_live.specs.Whole.{setting, call_of_posts, outs_of, downs_of}
use Rattle.live_run.specs.Whole.{live_call}
use Rattle.live_run.specs.Text.{live_line, closed_line}
use Rattle.live_run.proofs.Ended.{Ending, posts_are}

-- the call of the drawn posts is the one of the drawn lines
drawn_call : (seed caller call n : ℕ) → call_of_posts call (drawn_posts seed caller call n) ≡ live_call seed n call
unfolding drawn_posts up_line pcm_line
drawn_call seed caller call n =
    let post : ℕ → Post = drawn_post seed caller call in
    let up = flat_map-map (λ (p : Post). p.up) post (range_with_len 0 n) in
    let pcm = flat_map-map (λ (p : Post). p.pcm) post (range_with_len 0 n) in
    let count = length-map-range_with_len post 0 n in
    λ i. record { who = who_at call; up = up i; pcm = pcm i; settings = replicate (count i) setting; spans = [] }

-- ---- the lines

-- the law, as the function of that name says it
pub record WholeLaw : Type 0 where
  pub out : (call : ℕ) (es : List Entry) → IsLegal call es → outs_of es ≡ out (call_of_posts call (map (λ e. e.post) es))
  pub down : (call : ℕ) (es : List Entry) → IsLegal call es →
      bits_of (downs_of es) ≡ down (call_of_posts call (map (λ e. e.post) es))

line_is : WholeLaw → (seed n caller call : ℕ) (d : Closed) → d.call ≡ call → IsLegal call d.entries.items →
    map (λ e. e.post) d.entries.items ≡ drawn_posts seed caller call n → closed_line d ≡ live_line seed n call
unfolding closed_line live_line
line_is law seed n caller call d number legal posts =
    let es = d.entries.items in
    let whole : call_of_posts call (map (λ e. e.post) es) ≡ live_call seed n call = ap (call_of_posts call) posts ∙ drawn_call seed caller call n in
    let outs : outs_of es ≡ out (live_call seed n call) = law.out call es legal ∙ ap out whole in
    let downs : octets_of (bits_of (downs_of es)) ≡ octets_of (down (live_call seed n call)) = ap octets_of (law.down call es legal ∙ ap down whole) in
    λ i. sum_line (number i) (outs i) (downs i)

same_lines : {X : Type 0} (f : X → List ℕ) (g : ℕ → List ℕ) (a : ℕ) (xs : List X) →
    ((k : ℕ) (d : X) → k < length xs → f (get_or xs k d) ≡ g (a + k)) → flat_map f xs ≡ flat_map g (range_with_len a (length xs))
same_lines f g a [] each = refl
same_lines f g a (x ∷ xs) each =
    let first : f x ≡ g a = each 0 x (omega arith) ∙ (let e : a + 0 ≡ a = omega arith in ap g e) in
    let rest = same_lines f g (a + 1) xs (λ k d h. each (suc k) d (omega arith) ∙ (let e : a + suc k ≡ a + 1 + k = omega arith in ap g e)) in
    λ i. first i ++ rest i

-- all calls are closed, each by what all callers know of it
pub lines_are : WholeLaw → (seed calls callers n : ℕ) (cs : List Caller) (c : Caller) (ds : List Closed) →
    ((k : ℕ) → k < calls → Ending seed calls callers n cs c k) → AreClosed calls (reverse cs) ds →
    flat_map closed_line ds ≡ flat_map (live_line seed n) (range_with_len 1 calls)
lines_are law seed calls callers n cs c ds ending closed =
    same_lines closed_line (live_line seed n) 1 ds
    (λ k d h.
    let by : IsClosedBy (k + 1) (views_at k (reverse cs)) (get_or ds k d) = closed.1 k d h in
    let posts = posts_are seed calls callers n cs c k (ending k (omega (arith, h, closed.0))) (k + 1) (get_or ds k d) by in
    line_is law seed n (k % callers) (k + 1) (get_or ds k d) by.2.2 by.3 posts ∙ (let e : k + 1 ≡ 1 + k = omega arith in ap (live_line seed n) e))
    ∙ ap (λ (m : ℕ). flat_map (live_line seed n) (range_with_len 1 m)) closed.0
