-- Where a name leads after a file was put into the list, or one was added.
use Rattle.std.specs.Prelude.{◌≡◌, ℕ, cond, nat_lt, ◌<◌, ◌≤◌, Bool, true, false, List, [], ◌∷◌, ◌++◌, length, Option, Some, None, refl, slice_index_or, slice_set}
use Rattle.std.specs.List.{position, position_or_len}
use Rattle.std.specs.Option.{option_map}
use Rattle.std.proofs.Common.{arith, ap, ◌∙◌, length-append}
use Rattle.std.proofs.Math.Seq.{get_or-append_seam}
use Rattle.std.proofs.lemmas.Bool.{lt-ltb, ltb-false}
use Rattle.std.proofs.lemmas.List.{length-set, get_or_append_left}
use Rattle.std.proofs.lemmas.List.Folds.{position_or_len-set}
use Rattle.std.proofs.lemmas.List.Quantifiers.{position-Some}
use Rattle.std.proofs.lemmas.List.Sums.{fails_before_first, position_or_len_is}
use Rattle.trau_files.specs.declared.trunk.claims.FileIdentity.{FileIdentity}
use Rattle.memory_folder.specs.Memory.{StoredFile, no_file, numbered}

-- a place that is the first one to pass is where the search ends
pub found_at : (p : StoredFile → Bool) (files : List StoredFile) (i : ℕ) → i < length files → ((k : ℕ) → k < i → p (slice_index_or files k no_file) ≡ false) →
    p (slice_index_or files i no_file) ≡ true → position p files ≡ Some i
found_at p files i within before here =
    let is : position_or_len p files ≡ i = position_or_len_is p files i no_file (omega (arith, within)) before (λ _. here) in
    rw (is, lt-ltb i (length files) within) refl

-- a name leads where it did after a file was replaced by one with the same name
pub position_set : (p : StoredFile → Bool) (files : List StoredFile) (i : ℕ) (f : StoredFile) → p f ≡ p (slice_index_or files i no_file) →
    position p (slice_set files i f) ≡ position p files
position_set p files i f same = rw (position_or_len-set p files i f no_file same, length-set files i f) refl

-- and after a file was added at the end
pub position_push : (p : StoredFile → Bool) (files : List StoredFile) (i : ℕ) (f : StoredFile) → position p files ≡ Some i → position p (files ++ f ∷ []) ≡ Some i
position_push p files i f led =
    let one = position-Some p files i no_file led in
    found_at p (files ++ f ∷ []) i (omega (arith, length-append files (f ∷ []), one.0))
    (λ k before. ap p (get_or_append_left files (f ∷ []) no_file k (omega (arith, before, one.0))) ∙ one.2 k before)
    (ap p (get_or_append_left files (f ∷ []) no_file i one.0) ∙ one.1)

-- the number of the file that a name leads to
pub number_of : (o : Option ℕ) (f : FileIdentity) → option_map numbered o ≡ Some f → (i : ℕ) × (o ≡ Some i) × (numbered i ≡ f)
number_of None f is = let no : ⊥ = cc in absurd no
number_of (Some i) f is = (i, refl, cc)

past : (m n : ℕ) (b : Bool) → nat_lt m n ≡ b → cond b (Some m) None ≡ None → n ≤ m
past m n true is none = let no : ⊥ = cc in absurd no
past m n false is none = ltb-false m n is

-- no file passes if the search found none
pub none_before : (p : StoredFile → Bool) (files : List StoredFile) → position p files ≡ None → (k : ℕ) → k < length files → p (slice_index_or files k no_file) ≡ false
none_before p files none k within =
    let all : length files ≤ position_or_len p files = past (position_or_len p files) (length files) (nat_lt (position_or_len p files) (length files)) refl none in
    fails_before_first p files k no_file (omega (arith, within, all))

-- a file that was added is the first one that its name leads to, if the name led to none
pub added : (p : StoredFile → Bool) (files : List StoredFile) (f : StoredFile) → position p files ≡ None → p f ≡ true → position p (files ++ f ∷ []) ≡ Some (length files)
added p files f none here =
    found_at p (files ++ f ∷ []) (length files) (omega (arith, length-append files (f ∷ [])))
    (λ k before. ap p (get_or_append_left files (f ∷ []) no_file k before) ∙ none_before p files none k before)
    (ap p (get_or-append_seam files f [] no_file) ∙ here)
