-- What each operation did, from what it did to the list of files.
use Rattle.std.specs.Prelude.{◌≡◌, ℕ, ◌+◌, ◌<◌, ◌^◌, true, false, List, [], ◌∷◌, ◌++◌, length, take, drop, Some, None, Result, Ok, Err, MatchResult, refl, slice_index_or, slice_set}
use Rattle.std.specs.List.{position}
use Rattle.std.specs.Option.{option_map}
use Rattle.std.proofs.Common.{arith, zero, suc, ap, ap₂, sym, subst, ◌∙◌}
use Rattle.std.proofs.lemmas.List.Quantifiers.{position-Some}
use Rattle.std.specs.declared.fs.options.OpenOptions.{OpenOptions}
use Rattle.std.specs.declared.io.Error.{Error}
use Rattle.trau_files.specs.Disk.{Changes, GivesOctets, OpensFile, Place, Stays, written_at}
use Rattle.memory_folder.specs.declared.folder.OpenedFile.{OpenedFile}
use Rattle.memory_folder.specs.Memory.{StoredFile, bounded, disk_of, leads, no_file, numbered, opens, place_of}
use Rattle.memory_folder.specs.Sizes.{bounded_is}
use Rattle.memory_folder.proofs.Changing.{changes, opens_new, stays}

any_default : (files : List StoredFile) (i : ℕ) (d e : StoredFile) → i < length files → slice_index_or files i d ≡ slice_index_or files i e
any_default [] i d e within = let no : ⊥ = omega (arith, within) in absurd no
any_default (f ∷ files) zero d e within = refl
any_default (f ∷ files) (suc i) d e within = any_default files i d e (omega (arith, within))

-- a file that was read from the list is the one with this number
pub read_at : (files items : List StoredFile) (i : ℕ) (f : StoredFile) → items ≡ files → i < length files → f ≡ slice_index_or items i f → slice_index_or files i no_file ≡ f
read_at files items i f same within is =
    any_default files i no_file f within ∙ ap (λ (fs : List StoredFile). slice_index_or fs i f) (sym same) ∙ sym is

-- a file was replaced by one with other octets
pub changes_to : (files items : List StoredFile) (i : ℕ) (old new : StoredFile) (octets : List ℕ) → items ≡ files → i < length files →
    slice_index_or files i no_file ≡ old → length octets < 2 ^ 63 → new ≡ record old { octets = octets } →
    Changes (disk_of files) (disk_of (slice_set items i new)) (numbered i) octets
changes_to files items i old new octets same within here small is =
    subst (λ (fs : List StoredFile). Changes (disk_of files) (disk_of fs) (numbered i) octets)
    (sym (ap₂ (λ (fs : List StoredFile) (f : StoredFile). slice_set fs i f) same (is ∙ ap (λ (f : StoredFile). record f { octets = octets }) (sym here))))
    (changes files i octets within small)

-- a write
pub writes : (files items : List StoredFile) (i at n : ℕ) (bytes : List ℕ) (old new : StoredFile) → items ≡ files → i < length files →
    slice_index_or files i no_file ≡ old → length old.octets < 2 ^ 63 → length new.octets < 2 ^ 63 →
    new ≡ record old { octets = written_at old.octets at (take n bytes) } →
    Changes (disk_of files) (disk_of (slice_set items i new)) (numbered i) (written_at (bounded (slice_index_or files i no_file).octets) at (take n bytes))
writes files items i at n bytes old new same within here small small_after is =
    let whole : bounded (slice_index_or files i no_file).octets ≡ old.octets = ap (λ (f : StoredFile). bounded f.octets) here ∙ bounded_is old.octets small in
    subst (λ (octets : List ℕ). Changes (disk_of files) (disk_of (slice_set items i new)) (numbered i) (written_at octets at (take n bytes))) (sym whole)
    (changes_to files items i old new (written_at old.octets at (take n bytes)) same within here
    (subst (λ (octets : List ℕ). length octets < 2 ^ 63) (ap (λ (f : StoredFile). f.octets) is) small_after) is)

-- a read
pub gives_octets : (files items : List StoredFile) (i at n : ℕ) (buf : List ℕ) (f : StoredFile) → items ≡ files → i < length files → f ≡ slice_index_or items i f →
    length f.octets < 2 ^ 63 → GivesOctets (drop at f.octets) (drop (at + n) f.octets) n buf →
    GivesOctets (drop at (bounded (slice_index_or files i no_file).octets)) (drop (at + n) (bounded (slice_index_or files i no_file).octets)) n buf
gives_octets files items i at n buf f same within is small gives =
    let whole : bounded (slice_index_or files i no_file).octets ≡ f.octets =
    ap (λ (g : StoredFile). bounded g.octets) (read_at files items i f same within is) ∙ bounded_is f.octets small in
    subst (λ (octets : List ℕ). GivesOctets (drop at octets) (drop (at + n) octets) n buf) (sym whole) gives

-- a file was made for a name that led to none, or there was no memory for it
pub makes : (old new : List StoredFile) (how : OpenOptions) (name : List ℕ) (result : Result OpenedFile Error) → how.create ≡ true → position (leads name) old ≡ None →
    MatchResult result
    (λ file. (file.number ≡ length old) × (file.at ≡ 0) × (new ≡ old ++ record { name = name; octets = [] } ∷ []))
    (λ _. new ≡ old) →
    opens old new how name result
makes old new how name (Ok file) may none made =
    subst (λ (fs : List StoredFile). OpensFile (disk_of old) (disk_of fs) name how.create (place_of file)) (sym made.2)
    (subst (λ (p : Place). OpensFile (disk_of old) (disk_of (old ++ record { name = name; octets = [] } ∷ [])) name how.create p)
    (ap₂ (λ (n at : ℕ). record { file = numbered n; at = at }) (sym made.0) (sym made.1))
    (opens_new old name how.create (record { name = name; octets = [] }) may none refl))
makes old new how name (Err e) may none same =
    (subst (λ (fs : List StoredFile). Stays (disk_of old) (disk_of fs)) (sym same) (stays old), λ _. ap (option_map numbered) none)
