-- What looking a name up and putting a file come to in a map of std.
use Rattle.std.specs.Prelude.{◌≡◌, ℕ, cond, List, [], ◌∷◌, map, Some, String, string_bytes, refl}
use Rattle.std.proofs.Common.{BTreeMap, sym, ◌∙◌, ap}
use Rattle.std.specs.Ordering.{nat_cmp, eq_by_cmp, is_eq}
use Rattle.std.specs.Cmp.Lexicographic.{slice_cmp, nat_list_eq_equiv}
use Rattle.std.specs.BTreeMap.{get_by_text}
use Rattle.std.specs.Map.{lookup, update}
use Rattle.std.specs.Str.{bytes_eq}
use Rattle.std.specs.FinMap.{find, get, insert, get-insert, get-from_entries, same_map, slice_cmp-IsAntisymmetric, nat_cmp-IsAntisymmetric}
use Rattle.std.proofs.lemmas.Cmp.{nat_list_cmp_total}
use Rattle.std.proofs.lemmas.Map.Text.{is_eq-slice_cmp}
use Rattle.scut_base.specs.Files.{content}
use Rattle.scut_base.specs.FileMap.{files_of}

find_is_lookup : {Y : Type 0} (q : List ℕ) (es : List (String Y × List ℕ)) → find (slice_cmp nat_cmp) q (map (λ file. (string_bytes file.0, file.1)) es) ≡ lookup (λ k. is_eq (slice_cmp nat_cmp q (string_bytes k))) es
find_is_lookup q [] = refl
find_is_lookup q (e ∷ es) = ap (cond (eq_by_cmp (slice_cmp nat_cmp) q (string_bytes e.0)) (Some e.1)) (find_is_lookup q es)

-- what the map holds at a name
get_file : {Y : Type 0} (m : BTreeMap (String Y) (List ℕ)) (q : List ℕ) → get (files_of m.entries) q ≡ get_by_text m q
unfolding files_of
get_file m q = get-from_entries nat_list_cmp_total (map (λ file. (string_bytes file.0, file.1)) m.entries) q ∙ find_is_lookup q m.entries

-- the same as a shelf's files have it
pub content_file : {Y : Type 0} (m : BTreeMap (String Y) (List ℕ)) (q : List ℕ) → content (Some (files_of m.entries)) q ≡ get_by_text m q
unfolding content
content_file m q = get_file m q

turned : (q name : List ℕ) → eq_by_cmp (slice_cmp nat_cmp) q name ≡ bytes_eq name q
turned q name = is_eq-slice_cmp q name ∙ nat_list_eq_equiv.symm q name

-- a map that gives a name these bytes, and each other name what it had
pub files_put : {Y : Type 0} (m n : BTreeMap (String Y) (List ℕ)) (name bytes : List ℕ) → ((q : List ℕ) → get_by_text n q ≡ update bytes_eq (get_by_text m) name (Some bytes) q) → files_of n.entries ≡ insert (files_of m.entries) name bytes
files_put m n name bytes updates =
    same_map nat_list_cmp_total (slice_cmp-IsAntisymmetric nat_cmp-IsAntisymmetric) _ _ (λ q.
    get_file n q ∙ updates q ∙ ap (λ t. cond t (Some bytes) (get_by_text m q)) (sym (turned q name)) ∙ ap (cond (eq_by_cmp (slice_cmp nat_cmp) q name) (Some bytes)) (sym (get_file m q))
    ∙ sym (get-insert nat_list_cmp_total (files_of m.entries) name bytes q))
