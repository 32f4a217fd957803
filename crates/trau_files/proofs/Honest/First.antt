-- What the files of an honest folder hold before the first operation.
use Rattle.std.proofs.Common.{◌≡◌, ℕ, zero, suc, List, [], ◌∷◌, Option, None}
use Rattle.std.proofs.Common.{All, arith, refl, subst}
use Rattle.trau_io.specs.Indices.{index_of_line}
use Rattle.trau_files.proofs.BayLaws.{empty}
use Rattle.trau_files.specs.declared.trunk.claims.Claim.{Claim}
use Rattle.trau_files.specs.Files.{FileLine, OpenLine}
use Rattle.trau_files.specs.Trunk.{TrunkFiles}
use Rattle.trau_files.specs.Folder.{Operations}
use Rattle.trau_files.specs.Honest.{IsHonest}
use Rattle.trau_files.specs.Holds.{Holds, HoldsAtFirst, line_at}

-- an honest folder, before the first operation
holds_at_first : {D F : Type 0} (does : Operations D F) (honest : IsHonest does) (t : TrunkFiles D F) →
    All (λ (l : FileLine). l ≡ record { read = 0; written = 0; faults = 0 }) t.lines → All (λ (bay : Option (OpenLine F)). bay ≡ None) t.files.bays →
    All (λ (claim : Option Claim). claim ≡ None) t.files.claims → Holds honest (honest.disk t.files.folder) (λ _ _. []) (λ _ _. []) t
holds_at_first does honest t lines bays claims = record {
  files = record {
    names = λ _ _ led. led;
    newly_led = λ name f none leads. let never : ⊥ = cc in absurd never;
    unwritten = λ _ _. refl;
    lines = λ c s. rw (empty t.files.claims claims (index_of_line c s)) (record {
      leads = tt;
      given = λ some. absurd (omega (arith, some));
      put = λ some. absurd (omega (arith, some));
      written = tt;
    });
  };
  bays = λ k o there. let none = empty t.files.bays bays k in let no : ⊥ = cc in absurd no;
  counts = λ c s. rw (fresh t.lines lines (index_of_line c s)) (refl, refl, omega arith, omega arith);
}
  where
    fresh : (lines : List FileLine) → All (λ (l : FileLine). l ≡ record { read = 0; written = 0; faults = 0 }) lines → (k : ℕ) →
        line_at lines k ≡ record { read = 0; written = 0; faults = 0 }
    fresh [] none k = refl
    fresh (x ∷ xs) none zero = none 0 x (omega arith)
    fresh (x ∷ xs) none (suc k) = fresh xs (λ j d within. none (suc j) d (omega arith)) k

pub first_holds : {D F : Type 0} (does : Operations D F) (folder : D) (t : TrunkFiles D F) → t.files.folder ≡ folder →
    All (λ (l : FileLine). l ≡ record { read = 0; written = 0; faults = 0 }) t.lines → All (λ (bay : Option (OpenLine F)). bay ≡ None) t.files.bays →
    All (λ (claim : Option Claim). claim ≡ None) t.files.claims → HoldsAtFirst does folder t
first_holds does folder t is lines bays claims honest =
    subst (λ (d : _). Holds honest (honest.disk d) (λ _ _. []) (λ _ _. []) t) is (holds_at_first does honest t lines bays claims)
