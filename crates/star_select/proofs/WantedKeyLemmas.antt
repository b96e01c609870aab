-- The keys of a dimension: of the wanted rows of its cells, and then of those of rest.
use Rattle.std.proofs.Common.{◌≡◌, ◌≤◌, ◌+◌, ◌*◌, ℕ, List, [], ◌++◌, length, Some, sym, ap, ◌∙◌, subst, arith, length-append}
use Rattle.std.specs.Prelude.{IsTrue, unwrap_or}
use Rattle.blink_lists.specs.declared.limits.TheConstants.{MOST_ROWS}
use Rattle.star_bind.specs.declared.query.Conjunction.{Conjunction}
use Rattle.star_bind.specs.declared.query.Query.{Query}
use Rattle.star_bind.specs.Joins.{filters_at}
use Rattle.cell_layout.specs.Image.{TableImage, row_count}
use Rattle.code_join.specs.KeyLaws.{FirstKeysAreKeys}
use Rattle.code_join.specs.Keys.{Keyed, are_keys}
use Rattle.code_join.specs.declared.limits.TheConstants.{MOST_KEYS}
use Rattle.dim_filter.specs.Entries.{collected, key_column}
use Rattle.dim_filter.proofs.PageLemmas.{length-collected}
use Rattle.star_select.specs.CodeSelection.{image_wanted}
use Rattle.star_select.specs.WantedRows.{cells_wanted, rest_wanted}
use Rattle.star_select.proofs.CollectedLemmas.{collected-again, first_absent}
use Rattle.star_select.proofs.WantedPartLemmas.{wanted_few}

module _ (image : TableImage) (query : Query) (table : ℕ) (wanted : List ℕ) (conjunctions : List Conjunction) (into : Keyed) (empty : into ≡ []) (own : conjunctions ≡ filters_at query table) where
  abbrev key : ℕ
  key = key_column image

  split : collected key wanted [] (image_wanted image query table) ≡ collected key wanted into (cells_wanted image conjunctions ++ rest_wanted conjunctions image.rest)
  split = λ i. collected key wanted (sym empty i) (cells_wanted image (sym own i) ++ rest_wanted (sym own i) image.rest)

  all_few : row_count image ≤ MOST_ROWS → length into + (length (cells_wanted image conjunctions) + length (rest_wanted conjunctions image.rest)) ≤ MOST_KEYS
  all_few few = let none = ap (λ (k : Keyed). length k) empty in let some = wanted_few image conjunctions in omega (arith, none, some, few)

  pub cells_absent : FirstKeysAreKeys → IsTrue (are_keys (collected key wanted [] (image_wanted image query table))) → IsTrue (are_keys (collected key wanted into (cells_wanted image conjunctions)))
  cells_absent first once = first_absent key wanted into (cells_wanted image conjunctions) (rest_wanted conjunctions image.rest) first (subst (λ k. IsTrue (are_keys k)) split once)

  pub cells_few : row_count image ≤ MOST_ROWS → length into + length (cells_wanted image conjunctions) ≤ MOST_KEYS
  cells_few few = let all = all_few few in omega (arith, all)

  pub cells_counted : (each start now : ℕ) → now ≤ start + length (cells_wanted image conjunctions) * each → now ≤ start + length (image_wanted image query table) * each
  cells_counted each start now few =
      let all = ap (λ n. n * each) (ap (λ (cs : List Conjunction). length (cells_wanted image cs ++ rest_wanted cs image.rest)) (sym own) ∙ length-append (cells_wanted image conjunctions) (rest_wanted conjunctions image.rest)) in
      omega (arith, few, all)

  -- behind those of the cells
  module _ (column : ℕ) (is : image.schema.key ≡ Some column) (cells : Keyed) (put : cells ≡ collected key wanted into (cells_wanted image conjunctions)) where
    pub with_rest : collected column wanted cells (rest_wanted conjunctions image.rest) ≡ collected key wanted [] (image_wanted image query table)
    with_rest =
        ap (λ k. collected k wanted cells (rest_wanted conjunctions image.rest)) (sym (ap (λ o. unwrap_or o 0) is))
        ∙ ap (λ keys. collected key wanted keys (rest_wanted conjunctions image.rest)) put
        ∙ collected-again key wanted into (cells_wanted image conjunctions) (rest_wanted conjunctions image.rest) ∙ sym split

    pub rest_absent : IsTrue (are_keys (collected key wanted [] (image_wanted image query table))) → IsTrue (are_keys (collected column wanted cells (rest_wanted conjunctions image.rest)))
    rest_absent once = subst (λ k. IsTrue (are_keys k)) (sym with_rest) once

    pub rest_few : row_count image ≤ MOST_ROWS → length cells + length (rest_wanted conjunctions image.rest) ≤ MOST_KEYS
    rest_few few =
        let all = all_few few in
        let long = ap (λ (k : Keyed). length k) put ∙ length-collected key wanted into (cells_wanted image conjunctions) in
        omega (arith, all, long)
