use Rattle.std.proofs.Common.{◌≡◌, ◌≢◌, ℕ, ◌+◌, ◌<◌, List, [], ◌∷◌, ◌++◌, length, get_or, sym, ap, ◌∙◌, ⊎_elim, arith}
use Rattle.std.proofs.lemmas.Bool.{cases_eq}
use Rattle.std.proofs.lemmas.List.{get_or_append_left, get_or_push}
use Rattle.farm_drill.specs.Draws.{draw_state}
use Rattle.farm_drill.specs.declared.draws.Generator.{Generator}
use Rattle.live_run.proofs.posters.first_draws.Goals as goal

-- one generator more
each_more : (seed n : ℕ) (gs hs : List Generator) (x : Generator) → hs ≡ gs ++ x ∷ [] → length gs ≡ n → x.x ≡ draw_state seed (n + 1) 0 →
    ((k : ℕ) (g : Generator) → k < n → (get_or gs k g).x ≡ draw_state seed (k + 1) 0) → (k : ℕ) (g : Generator) → k < n + 1 →
    (get_or hs k g).x ≡ draw_state seed (k + 1) 0
each_more seed n gs hs x e long now before k g h =
    ap (λ (l : List Generator). (get_or l k g).x) e ∙ ⊎_elim
    (λ (here : k ≡ n).
    ap (λ (y : Generator). y.x) (get_or_push gs x g k (long ∙ sym here)) ∙ now ∙ ap (λ (j : ℕ). draw_state seed (j + 1) 0) (sym here))
    (λ (ne : k ≢ n).
    let less : k < n = omega (arith, h, ne) in
    ap (λ (y : Generator). y.x) (get_or_append_left gs (x ∷ []) g k (omega (arith, less, long))) ∙ before k g less)
    (cases_eq k n)

pub loop-k-preserved : goal.loop-k-preserved
loop-k-preserved c = record {
  len = omega (arith, c.push_reserved.ensures.len, c.loop-k.invariant.len);
  capacity = omega (arith, c.push_reserved.ensures.capacity, c.loop-k.invariant.capacity);
  each = each_more c.args.seed c.loop-k.k c.loop-k.draws.items c.push_reserved.new.self.items c.new-generator.result c.push_reserved.ensures.items
      (omega (arith, c.loop-k.draws.ok.0, c.loop-k.invariant.len)) c.new-generator.ensures c.loop-k.invariant.each;
}
