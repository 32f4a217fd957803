-- For crates above: the passes over one more frame give its samples by the rule (`history`).
-- The passes over a frame give what the rule gives sample by sample.
use Rattle.std.proofs.Common.{◌≡◌, ℕ, ◌+◌, ◌<◌, suc, zero, ℤ, pos, ◌+ℤ◌, ◌-ℤ◌, ◌*ℤ◌, length, drop, List, [], ◌∷◌, ◌++◌, refl, sym, ◌∙◌, ap, arith, drop-cons}
use Rattle.std.proofs.lemmas.Int.{ints}
use Rattle.std.proofs.lemmas.List.{drop_all}
use Rattle.fr_pre.specs.Memory.{PreMemory, home_memory}
use Rattle.fr_pre.specs.Preprocessing.{downscaled, next_l_z2, offset_free, preemphasised}
use Rattle.fr_pre.specs.Step.{preprocessed_sample, preprocessed_frame}
use Rattle.trau_num.specs.Num.{entry}
use Rattle.fr_pre.specs.Offsets.{next_offset, without_offset, IsDownscaled, IsOffset, AreDownscaled, AreOffsets, AreFree, ArePreemphasised}
use Rattle.fr_pre.specs.History.{samples_of_frames, memory_after, newest_preprocessed}
use Rattle.fr_pre.specs.Stands.{Stands}
use Rattle.fr_pre.proofs.Floors.{sum_goes_on, rounds_on}

-- the lists that the passes made
pub record Passes (z1 offset mp : ℤ) (x so offsets sof s : List ℤ) : Type 0 where
  pub x_count : length x ≡ 160
  pub s_count : length s ≡ 160
  pub before : IsOffset offset
  pub downscaled : AreDownscaled z1 x so
  pub followed : AreOffsets offset so offsets
  pub freed : AreFree mp so offsets sof
  pub preemphasised : ArePreemphasised sof s

-- the memory before sample k
abbrev memory_at : ℤ → List ℤ → List ℤ → List ℤ → ℕ → PreMemory
memory_at offset so offsets sof k = record { z1 = entry so k; l_z2 = entry (offset ∷ offsets) k +ℤ entry so k *ℤ pos 32768; mp = entry sof k }

-- each offset of a frame is one that samples from home can give
offset_within : (offset : ℤ) (so offsets : List ℤ) (k : ℕ) → k < 160 → IsOffset offset → AreOffsets offset so offsets → IsOffset (entry (offset ∷ offsets) k)
offset_within offset so offsets zero h o a = o
offset_within offset so offsets (suc j) h o a = a.within j (omega arith)

-- one sample
one : (m : PreMemory) (so' offset offset' sof' s x : ℤ) → IsDownscaled m.z1 → IsDownscaled so' → IsOffset offset → IsOffset offset' →
    m.l_z2 ≡ offset +ℤ m.z1 *ℤ pos 32768 → so' ≡ downscaled x → offset' ≡ next_offset offset m.z1 → sof' ≡ without_offset so' offset' →
    s ≡ preemphasised m.mp sof' → preprocessed_sample m x ≡ (s, record { z1 = so'; l_z2 = offset' +ℤ so' *ℤ pos 32768; mp = sof' })
unfolding preprocessed_sample
one m so' offset offset' sof' s x z1 zs o o' el eso eo esof es =
    let l : next_l_z2 m.l_z2 (so' -ℤ m.z1) ≡ offset' +ℤ so' *ℤ pos 32768 = rw eo (sum_goes_on m.z1 so' offset m.l_z2 z1 zs o el) in
    let f : offset_free (offset' +ℤ so' *ℤ pos 32768) ≡ sof' = rw esof (rounds_on so' offset' (offset' +ℤ so' *ℤ pos 32768) zs o' refl) in
    rw (← eso, l, f, ← es) refl

-- the passes from sample k on are the rule
rest : (z1 offset mp : ℤ) (x so offsets sof s : List ℤ) → Passes z1 offset mp x so offsets sof s → (n k : ℕ) → k + n ≡ 160 →
    preprocessed_frame (memory_at offset so offsets sof k) (drop k x) ≡ (drop k s, memory_at offset so offsets sof 160)
unfolding preprocessed_frame
rest z1 offset mp x so offsets sof s p zero k e =
    let xc = p.x_count in
    let sc = p.s_count in
    let k160 : k ≡ 160 = omega (arith, e) in
    let ex : drop k x ≡ [] = drop_all k x (omega arith) in
    let es : drop k s ≡ [] = drop_all k s (omega arith) in
    rw (ex, es, k160) refl
rest z1 offset mp x so offsets sof s p (suc n) k e =
    let xc = p.x_count in
    let sc = p.s_count in
    let h : k < 160 = omega (arith, e) in
    let hx : k < length x = omega arith in
    let hs : k < length s = omega arith in
    let ex : drop k x ≡ entry x k ∷ drop (suc k) x = drop-cons x k (pos 0) hx in
    let es : drop k s ≡ entry s k ∷ drop (suc k) s = drop-cons s k (pos 0) hs in
    let next : suc k ≡ k + 1 = omega arith in
    let e_so : entry so (suc k) ≡ downscaled (entry x k) = rw next (p.downscaled.each k h) in
    let e_sof : entry sof (suc k) ≡ without_offset (entry so (suc k)) (entry offsets k) = rw next (p.freed.each k h) in
    let e_s : entry s k ≡ preemphasised (entry sof k) (entry sof (suc k)) = rw next (p.preemphasised.each k h) in
    let o : preprocessed_sample (memory_at offset so offsets sof k) (entry x k) ≡ (entry s k, memory_at offset so offsets sof (suc k)) =
    one (memory_at offset so offsets sof k) (entry so (suc k)) (entry (offset ∷ offsets) k) (entry offsets k) (entry sof (suc k)) (entry s k) (entry x k)
    (p.downscaled.within k (omega arith)) (p.downscaled.within (suc k) (omega arith)) (offset_within offset so offsets k h p.before p.followed)
    (p.followed.within k h)
    refl e_so (p.followed.each k h) e_sof e_s in
    let r = rest z1 offset mp x so offsets sof s p n (suc k) (omega (arith, e)) in
    rw (ex, es, o, r) refl

-- the frame
pub frame : (z1 l mp offset l' : ℤ) (x so offsets sof s : List ℤ) → Passes z1 offset mp x so offsets sof s → offset ≡ l -ℤ z1 *ℤ pos 32768 →
    l' ≡ entry offsets 159 +ℤ entry so 160 *ℤ pos 32768 →
    preprocessed_frame (record { z1 = z1; l_z2 = l; mp = mp }) x ≡ (s, record { z1 = entry so 160; l_z2 = l'; mp = entry sof 160 })
frame z1 l mp offset l' x so offsets sof s p e e' =
    let r = rest z1 offset mp x so offsets sof s p 160 0 refl in
    let el : l ≡ offset +ℤ z1 *ℤ pos 32768 = omega (arith, ints) in
    let first = p.downscaled.first in
    let mp_first = p.freed.first in
    rw (el, e') (rw (first, mp_first) at r)

-- two lists one after another
pub appended : (m : PreMemory) (xs ys : List ℤ) → let first = preprocessed_frame m xs in let rest = preprocessed_frame first.1 ys in
    preprocessed_frame m (xs ++ ys) ≡ (first.0 ++ rest.0, rest.1)
unfolding preprocessed_frame
appended m [] ys = refl
appended m (x ∷ xs) ys = rw (appended (preprocessed_sample m x).1 xs ys) refl

-- one frame more
pub history : (m m' : PreMemory) (x s : List ℤ) → preprocessed_frame m x ≡ (s, m') → (past : List (List ℤ)) → Stands past m →
    Stands (x ∷ past) m' × (s ≡ newest_preprocessed x past)
unfolding samples_of_frames
history m m' x s e past h =
    let a = h.after in
    let f : preprocessed_frame (memory_after past) x ≡ (s, m') = rw a at e in
    let after : memory_after (x ∷ past) ≡ m' = ap (λ p. p.1) (appended home_memory (samples_of_frames past) x) ∙ ap (λ p. p.1) f in
    (record { after = sym after }, sym (ap (λ p. p.0) f))
