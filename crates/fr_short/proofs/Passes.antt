-- A loop that passes the samples of a frame through one section of analysis.
use Rattle.std.proofs.Common.{◌≡◌, ℕ, ℤ, ◌+◌, ◌<◌, pos, get_or, set, length, List, refl, arith, add-one}
use Rattle.trau_num.specs.Num.{add_of, mult_r_of}
use Rattle.fr_short.specs.AnalysisSection.{u_at, next_d, next_sav}
use Rattle.fr_short.proofs.Over.{Over, over_start, over_next}

-- k samples are done
pub record Passing (rs : ℕ → ℤ) (first : ℤ) (ds0 savs0 ds savs : List ℤ) (u : ℤ) (k : ℕ) : Type 0 where
  pub ds_over : Over (next_d rs first ds0 savs0) ds0 ds k
  pub savs_over : Over (next_sav rs first ds0 savs0) savs0 savs k
  pub u_is : u ≡ u_at first savs0 k

-- one sample more passes the section
pub passing_next : (rs : ℕ → ℤ) (first : ℤ) (ds0 savs0 ds savs : List ℤ) (r u : ℤ) (k : ℕ) (x y : ℤ) → k < 160 → r ≡ rs k →
    Passing rs first ds0 savs0 ds savs u k →
    x ≡ add_of (get_or ds k (pos 0)) (mult_r_of r u) → y ≡ add_of u (mult_r_of r (get_or ds k (pos 0))) →
    Passing rs first ds0 savs0 (set ds k x) (set savs k y) (get_or savs k (pos 0)) (k + 1)
passing_next rs first ds0 savs0 ds savs r u k x y l er h ex ey =
    let u_is = h.u_is in
    let d : get_or ds k (pos 0) ≡ get_or ds0 k (pos 0) = h.ds_over.kept k (omega arith) in
    let s : get_or savs k (pos 0) ≡ get_or savs0 k (pos 0) = h.savs_over.kept k (omega arith) in
    record {
      ds_over = over_next _ ds0 ds k x l h.ds_over (rw (d, u_is, er) at ex);
      savs_over = over_next _ savs0 savs k y l h.savs_over (rw (d, u_is, er) at ey);
      u_is = rw add-one s;
    }
