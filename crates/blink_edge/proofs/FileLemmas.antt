-- Files as the entries of a tree map.
use Rattle.std.proofs.Common.{◌≡◌, ◌∙◌, ℕ, Vec, String, List, [], ◌∷◌, map, Some, option_map, true, false, cond, refl, sym, ap, string_bytes}
use Rattle.std.specs.declared.alloc.Global.{Global}
use Rattle.std.specs.declared.cmp.Ordering.TheVariants.{Less, Equal, Greater}
use Rattle.std.specs.Ordering.{nat_cmp, is_eq, eq_by_cmp, match_ordering}
use Rattle.std.specs.Cmp.Lexicographic.{slice_cmp}
use Rattle.std.specs.String.{string_cmp}
use Rattle.std.specs.Map.{lookup}
use Rattle.std.specs.BTreeMap.{insert_entry}
use Rattle.std.specs.FinMap.{get, insert, get-from_entries, get-insert, same_map, slice_cmp-IsAntisymmetric, nat_cmp-IsAntisymmetric}
use Rattle.std.specs.FinMap.Entries.{find, put, by_order, find-put}
use Rattle.std.proofs.lemmas.Cmp.{nat_list_cmp_total}
use Rattle.blink_edge.specs.Memory.{file_of, files_of}

-- the content that a look in the tree finds is that of the name's file
pub get_files : (entries : List (String Global × Vec ℕ Global)) (name : List ℕ)
    → option_map (λ (v : Vec ℕ Global). v.items) (lookup (λ k. is_eq (slice_cmp nat_cmp name (string_bytes k))) entries) ≡ get (files_of entries) name
get_files entries name = sym (get-from_entries nat_list_cmp_total (map file_of entries) name ∙ found entries)
  where
    found : (es : List (String Global × Vec ℕ Global)) → find (slice_cmp nat_cmp) name (map file_of es) ≡ option_map (λ (v : Vec ℕ Global). v.items) (lookup (λ k. is_eq (slice_cmp nat_cmp name (string_bytes k))) es)
    found [] = refl
    found (e ∷ es) =
        elim (is_eq (slice_cmp nat_cmp name (string_bytes e.0))) as (λ b. cond b (Some e.1.items) (find (slice_cmp nat_cmp) name (map file_of es)) ≡ option_map (λ (v : Vec ℕ Global). v.items) (cond b (Some e.1) (lookup (λ k. is_eq (slice_cmp nat_cmp name (string_bytes k))) es))) [
          | true ↦ refl
          | false ↦ found es
        ]

-- an entry that is inserted into the tree is a file that is inserted into the files
pub files_insert_entry : (entries : List (String Global × Vec ℕ Global)) (key : String Global) (content : Vec ℕ Global)
    → files_of (insert_entry string_cmp entries key content) ≡ insert (files_of entries) (string_bytes key) content.items
files_insert_entry entries key content =
    same_map nat_list_cmp_total (slice_cmp-IsAntisymmetric nat_cmp-IsAntisymmetric) _ _ (λ q.
    get-from_entries nat_list_cmp_total (map file_of (insert_entry string_cmp entries key content)) q
    ∙ ap (find (slice_cmp nat_cmp) q) (as_put entries)
    ∙ find-put (slice_cmp nat_cmp) nat_list_cmp_total q (string_bytes key) content.items (map file_of entries)
    ∙ ap (cond (eq_by_cmp (slice_cmp nat_cmp) q (string_bytes key)) (Some content.items)) (sym (get-from_entries nat_list_cmp_total (map file_of entries) q))
    ∙ sym (get-insert nat_list_cmp_total (files_of entries) (string_bytes key) content.items q))
  where
    as_put : (es : List (String Global × Vec ℕ Global)) → map file_of (insert_entry string_cmp es key content) ≡ put (slice_cmp nat_cmp) (string_bytes key) content.items (map file_of es)
    as_put [] = refl
    as_put (e ∷ es) =
        elim (slice_cmp nat_cmp (string_bytes key) (string_bytes e.0)) as (λ r. map file_of (match_ordering r ((key, content) ∷ e ∷ es) ((e.0, content) ∷ es) (e ∷ insert_entry string_cmp es key content)) ≡ by_order r ((string_bytes key, content.items) ∷ file_of e ∷ map file_of es) ((string_bytes e.0, content.items) ∷ map file_of es) (file_of e ∷ put (slice_cmp nat_cmp) (string_bytes key) content.items (map file_of es))) [
          | Less ↦ refl
          | Equal ↦ refl
          | Greater ↦ ap (λ t. file_of e ∷ t) (as_put es)
        ]
