-- SELECT over the tables that an engine keeps: the query over their images, and what the answer over the images says of the accepted rows.
use Rattle.std.proofs.Common.{◌≡◌, ◌≤◌, ◌+◌, ℕ, Bool, true, false, ◌&&◌, cond, List, [], ◌∷◌, map, length, find, filter_map, nat_le, Option, Some, None, option_map, Result, Ok, Err, All, refl, sym, ap, ◌∙◌, subst, arith}
use Rattle.std.specs.Borrow.{Bor}
use Rattle.std.specs.List.{list_all, cons_option}
use Rattle.std.specs.Str.{bytes_eq}
use Rattle.std.proofs.lemmas.Bool.{and_from}
use Rattle.std.proofs.lemmas.List.Elements.{All-head, All-tail, All-nil, All-cons}
use Rattle.blink_base.specs.declared.answer.Answer.{Answer}
use Rattle.blink_base.specs.declared.limits.Limits.{Limits}
use Rattle.blink_base.specs.declared.refusal.Refusal.{Refusal}
use Rattle.blink_base.specs.declared.refusal.Refusal.TheVariants as refusal
use Rattle.blink_base.specs.declared.schema.Schema.{Schema}
use Rattle.blink_base.specs.RowFits.{is_schema}
use Rattle.blink_base.specs.Values.{Row}
use Rattle.blink_lists.specs.declared.limits.TheConstants.{MOST_ROWS}
use Rattle.blink_lists.specs.Lists.{rises}
use Rattle.blink_lists.specs.Rearrangement.{AllRearranged}
use Rattle.blink_lists.specs.Rearrangement.AllRearranged.{no_lists, one_more}
use Rattle.blink_lists.proofs.FindLemmas.{find-map}
use Rattle.star_sql.specs.declared.ast.Select.{Select}
use Rattle.star_sql.specs.WellFormed.{is_select}
use Rattle.star_meaning.specs.Answer.{answer, AnswersInAnyOrder}
use Rattle.star_meaning.specs.Names.{FromEntry}
use Rattle.star_bind.specs.declared.fault.BindFault.{BindFault}
use Rattle.star_bind.specs.declared.fault.BindFault.TheVariants as bind
use Rattle.star_bind.specs.declared.query.Query.{Query}
use Rattle.star_bind.specs.BindAnswer.{refusal_of, is_cause}
use Rattle.star_bind.specs.BoundQuery.{Schemas, entry_of, scope_of, first_refusal, query_of, bound_of, bound_or_refused}
use Rattle.star_bind.specs.Preconditions.{AreAllowed}
use Rattle.cell_layout.specs.Image.{TableImage, rows_of, row_count}
use Rattle.cell_layout.specs.Layout.{cell_cmp}
use Rattle.cell_layout.specs.Valid.{is_valid, is_cell, is_rest_row, are_keyed, most_cell_rows}
use Rattle.column_classes.specs.ColumnClasses.{are_divided}
use Rattle.star_select.specs.Decodes.{most_decodes}
use Rattle.star_select.specs.ImageAnswer.{rows_in as image_rows}
use Rattle.star_select.specs.QueryImages.{IsQueryOf}
use Rattle.star_engine.specs.declared.engine.Engine.{Engine}
use Rattle.star_engine.specs.declared.table.Table.{Table}
use Rattle.star_engine.specs.Causes.{IsCause}
use Rattle.star_engine.specs.Changes.{unless}
use Rattle.star_engine.specs.EngineRepr.{table_of, IsEngineOf, image_named, schemas_of}
use Rattle.star_engine.specs.Faults.{bind_error}
use Rattle.star_engine.specs.Queries.{schemas_in, rows_in, images_in, selected, decoded_unless, most_decoded}
use Rattle.star_engine.specs.Soundness.{AreLimits, IsSound, IsSoundTable}
use Rattle.star_engine.specs.State.{AcceptedTable, Tables, find_table}

-- what holds of all elements holds of the one that is found
found_passes : {X : Type 0} (P : X → Type 0) (p : X → Bool) (xs : List X) → All P xs → (x : X) → find p xs ≡ Some x → P x
found_passes P p [] all x e = absurd (cc e)
found_passes {X = X} P p (y ∷ ys) all x e = by (p y) e (found_passes P p ys (All-tail P y ys all) x)
  where
    by : (b : Bool) → cond b (Some y) (find p ys) ≡ Some x → (find p ys ≡ Some x → P x) → P x
    by true f more = let same : y ≡ x = cc f in subst P same (All-head P y ys all)
    by false f more = more f

-- the schema of a valid image is one that a table may have
first_true : (a b c d e f g : Bool) → (a && b && c && d && e && f && g) ≡ true → a ≡ true
first_true true b c d e f g all = refl
first_true false b c d e f g all = absurd (cc all)

schema_allowed : (image : TableImage) → is_valid image ≡ true → is_schema image.schema ≡ true
schema_allowed image valid =
    first_true (is_schema image.schema) (are_divided image.schema image.columns) (list_all (is_cell image.columns) image.cells) (rises cell_cmp (map (λ cell. cell.classes) image.cells))
    (list_all (is_rest_row image) image.rest) (nat_le (length image.rest) most_cell_rows) (are_keyed image.schema.key (rows_of image)) valid

-- ---- the tables of some names

module _ (tables : Tables) where
  abbrev rows_named : List (List ℕ) → List (List Row)
  rows_named names = filter_map (λ name. option_map (λ (h : AcceptedTable). h.rows) (find_table tables name)) names

  abbrev images_named : List (List ℕ) → List TableImage
  images_named names = filter_map (λ name. option_map (λ (h : AcceptedTable). h.image) (find_table tables name)) names

  abbrev entries_named : List (List ℕ) → List FromEntry
  entries_named names = filter_map (entry_of (schemas_in tables)) names

  -- FROM entries have the schemas of the images
  schemas_named : (names : List (List ℕ)) → map (λ (image : TableImage). image.schema) (images_named names) ≡ map (λ (entry : FromEntry). entry.schema) (entries_named names)
  schemas_named [] = refl
  schemas_named (name ∷ names) = by (schemas_named names) (find_table tables name)
    where
      by : map (λ (image : TableImage). image.schema) (images_named names) ≡ map (λ (entry : FromEntry). entry.schema) (entries_named names) → (o : Option AcceptedTable)
          → map (λ (image : TableImage). image.schema) (cons_option (option_map (λ (h : AcceptedTable). h.image) o) (images_named names))
          ≡ map (λ (entry : FromEntry). entry.schema) (cons_option (option_map (λ schema. let e : FromEntry = record { name = name; schema = schema } in e) (option_map (λ (h : AcceptedTable). h.image.schema) o)) (entries_named names))
      by more None = more
      by more (Some h) = ap (λ (l : List Schema). h.image.schema ∷ l) more

  module _ (limits : Limits) (sound : IsSound limits tables) where
    sound_named : (name : List ℕ) (h : AcceptedTable) → find_table tables name ≡ Some h → IsSoundTable limits h
    sound_named name h e = found_passes (IsSoundTable limits) (λ (t : AcceptedTable). bytes_eq name t.name) tables sound.each h e

    -- the images stand for the accepted rows
    rows_arranged : (names : List (List ℕ)) → AllRearranged (rows_named names) (map rows_of (images_named names))
    rows_arranged [] = no_lists
    rows_arranged (name ∷ names) = by (rows_arranged names) (find_table tables name) refl
      where
        by : AllRearranged (rows_named names) (map rows_of (images_named names)) → (o : Option AcceptedTable) → find_table tables name ≡ o
            → AllRearranged (cons_option (option_map (λ (h : AcceptedTable). h.rows) o) (rows_named names)) (map rows_of (cons_option (option_map (λ (h : AcceptedTable). h.image) o) (images_named names)))
        by more None e = more
        by more (Some h) e = one_more (sound_named name h e).rows more

    valid_named : (names : List (List ℕ)) → list_all is_valid (images_named names) ≡ true
    valid_named [] = refl
    valid_named (name ∷ names) = by (valid_named names) (find_table tables name) refl
      where
        by : list_all is_valid (images_named names) ≡ true → (o : Option AcceptedTable) → find_table tables name ≡ o → list_all is_valid (cons_option (option_map (λ (h : AcceptedTable). h.image) o) (images_named names)) ≡ true
        by more None e = more
        by more (Some h) e = and_from (is_valid h.image) (list_all is_valid (images_named names)) (sound_named name h e).valid more

    abbrev IsFew : TableImage → Type 0
    IsFew image = row_count image ≤ MOST_ROWS

    few_named : AreLimits limits → (names : List (List ℕ)) → All IsFew (images_named names)
    few_named are [] = All-nil IsFew
    few_named are (name ∷ names) = by (few_named are names) (find_table tables name) refl
      where
        by : All IsFew (images_named names) → (o : Option AcceptedTable) → find_table tables name ≡ o → All IsFew (cons_option (option_map (λ (h : AcceptedTable). h.image) o) (images_named names))
        by more None e = more
        by more (Some h) e = All-cons IsFew h.image (images_named names) (let few = (sound_named name h e).few in let most = are.rows in omega arith) more

    -- each schema is one that a table may have
    pub allowed_in : AreAllowed (schemas_in tables)
    allowed_in name schema e = by (find_table tables name) refl e
      where
        by : (o : Option AcceptedTable) → find_table tables name ≡ o → option_map (λ (h : AcceptedTable). h.image.schema) o ≡ Some schema → is_schema schema ≡ true
        by None f k = absurd (cc k)
        by (Some h) f k = let same : h.image.schema ≡ schema = cc k in subst (λ (x : Schema). is_schema x ≡ true) same (schema_allowed h.image (sound_named name h f).valid)

-- ---- what `bind` answers

-- a query that is accepted is the one that the definition gives
pub accepted : (schemas : Schemas) (s : Select) (query : Query) → bound_of schemas s ≡ Ok query → (first_refusal schemas s ≡ None) × (query ≡ query_of schemas s)
accepted schemas s query is = by (first_refusal schemas s) refl is
  where
    by : (o : Option Refusal) → first_refusal schemas s ≡ o → bound_or_refused o schemas s ≡ Ok query → (first_refusal schemas s ≡ None) × (query ≡ query_of schemas s)
    by None free told = let same : query ≡ query_of schemas s = cc told in (free, same)
    by (Some why) free told = absurd (cc told)

-- a refusal is the first one
refused_first : (schemas : Schemas) (s : Select) (why : Refusal) → bound_of schemas s ≡ Err why → first_refusal schemas s ≡ Some why
refused_first schemas s why is = by (first_refusal schemas s) refl is
  where
    by : (o : Option Refusal) → first_refusal schemas s ≡ o → bound_or_refused o schemas s ≡ Err why → first_refusal schemas s ≡ Some why
    by None free told = absurd (cc told)
    by (Some other) free told = let same : other ≡ why = cc told in free ∙ ap (λ (r : Refusal). Some r) same

module _ (tables : Tables) (s : Select) where
  told_refused : (why : Refusal) → bound_of (schemas_in tables) s ≡ Err why → selected tables s ≡ Err why
  told_refused why is = ap (λ (o : Option Refusal). unless o (answer (scope_of (schemas_in tables) s) s (rows_in tables s))) (refused_first (schemas_in tables) s why is)

  -- a fault of `bind` is the refusal of SELECT
  pub refused_as : (why : BindFault) → is_cause (refusal_of why) (bound_of (schemas_in tables) s) → IsCause (bind_error why) (selected tables s)
  refused_as (bind.UnknownTable name) told = told_refused (refusal.UnknownTable name) told
  refused_as (bind.UnknownColumn name) told = told_refused (refusal.UnknownColumn name) told
  refused_as (bind.Ambiguous name) told = told_refused (refusal.AmbiguousColumn name) told
  refused_as bind.WrongKind told = told_refused refusal.WrongKind told
  refused_as bind.NotStar told = told_refused refusal.NotStar told
  refused_as bind.NotGrouped told = told_refused refusal.NotGrouped told
  refused_as bind.Wide told = told_refused refusal.TooManyConjunctions told
  refused_as bind.Memory told = tt

  module _ (limits : Limits) (sound : IsSound limits tables) (query : Query) (is : bound_of (schemas_in tables) s ≡ Ok query) where
    -- an accepted query, and the images of its tables
    pub over_images : AreLimits limits → is_select s ≡ true → IsQueryOf (schemas_in tables) s (images_in tables s) query
    over_images are formed =
        let a = accepted (schemas_in tables) s query is in
        record {
          bound = a.1;
          over = record { formed = formed; free = a.0; same = schemas_named tables s.tables; valid = valid_named tables limits sound s.tables };
          few = few_named tables limits sound are s.tables;
        }

    -- the answer over the images is that over the accepted rows
    pub answered_as : AnswersInAnyOrder → (given : Answer) → given ≡ answer (scope_of (schemas_in tables) s) s (image_rows (images_in tables s)) → selected tables s ≡ Ok given
    answered_as any_order given told =
        let scope = scope_of (schemas_in tables) s in
        ap (λ (o : Option Refusal). unless o (answer scope s (rows_in tables s))) (accepted (schemas_in tables) s query is).0
        ∙ ap (λ (a : Answer). let r : Result Answer Refusal = Ok a in r) (any_order scope s (rows_in tables s) (image_rows (images_in tables s)) (rows_arranged tables limits sound s.tables) ∙ sym told)

    -- no more is decoded than SELECT may
    pub decoded_as : most_decodes query (scope_of (schemas_in tables) s) (image_rows (images_in tables s)) ≡ most_decoded tables s
    decoded_as =
        let a = accepted (schemas_in tables) s query is in
        let scope = scope_of (schemas_in tables) s in
        ap (λ (q : Query). most_decodes q scope (image_rows (images_in tables s))) a.1
        ∙ sym (ap (λ (o : Option Refusal). decoded_unless o (most_decodes (query_of (schemas_in tables) s) scope (image_rows (images_in tables s)))) a.0)

-- ---- what an engine finds

module _ {M : Type 0} (engine : Engine M) (name : List ℕ) where
  -- the image of a table that is found, and its schema
  pub image_there : (table : Table M) → Some table ≡ find (λ (t : Table M). bytes_eq name t.name) engine.tables → Some table.image ≡ image_named engine name
  image_there table is = ap (option_map (λ (t : Table M). t.image)) is

  pub no_image : None ≡ find (λ (t : Table M). bytes_eq name t.name) engine.tables → None ≡ image_named engine name
  no_image is = ap (option_map (λ (t : Table M). t.image)) is

  pub schema_there : (image : TableImage) (schema : Schema) → Some image ≡ image_named engine name → schema ≡ image.schema → Some schema ≡ schemas_of engine name
  schema_there image schema is same = ap (λ (x : Schema). Some x) same ∙ ap (option_map (λ (i : TableImage). i.schema)) is

  pub no_schema : None ≡ image_named engine name → None ≡ schemas_of engine name
  no_schema is = ap (option_map (λ (i : TableImage). i.schema)) is

-- the images of the tables of FROM, as they are handed on
pub found_list : {M : Type 0} (engine : Engine M) (s : Select) (names : List (List ℕ)) (items handed : List (Bor TableImage)) → names ≡ s.tables → handed ≡ items
    → map (λ (image : Bor TableImage). image.now) items ≡ filter_map (image_named engine) names → map (λ (image : Bor TableImage). image.now) handed ≡ filter_map (image_named engine) s.tables
found_list engine s names items handed same passed made =
    ap (λ (l : List (Bor TableImage)). map (λ (image : Bor TableImage). image.now) l) passed ∙ made ∙ ap (filter_map (image_named engine)) same

module _ {M : Type 0} (tables : Tables) (engine : Engine M) (of : IsEngineOf tables engine) where
  image_kept : (name : List ℕ) → image_named engine name ≡ option_map (λ (h : AcceptedTable). h.image) (find_table tables name)
  image_kept name =
      ap (λ (ts : List (Table M)). option_map (λ (t : Table M). t.image) (find (λ (t : Table M). bytes_eq name t.name) ts)) of.accepted
      ∙ ap (option_map (λ (t : Table M). t.image)) (find-map table_of (λ (t : Table M). bytes_eq name t.name) tables)
      ∙ by (find_table tables name)
    where
      by : (o : Option AcceptedTable) → option_map (λ (t : Table M). t.image) (option_map table_of o) ≡ option_map (λ (h : AcceptedTable). h.image) o
      by None = refl
      by (Some h) = refl

  schema_kept : (name : List ℕ) → schemas_of engine name ≡ schemas_in tables name
  schema_kept name = ap (option_map (λ (image : TableImage). image.schema)) (image_kept name) ∙ by (find_table tables name)
    where
      by : (o : Option AcceptedTable) → option_map (λ (image : TableImage). image.schema) (option_map (λ (h : AcceptedTable). h.image) o) ≡ option_map (λ (h : AcceptedTable). h.image.schema) o
      by None = refl
      by (Some h) = refl

  -- the schemas that an engine finds are those of its tables
  pub schemas_kept : schemas_of engine ≡ schemas_in tables
  schemas_kept = λ i. λ name. schema_kept name i

  -- and so are the images
  pub images_kept : (names : List (List ℕ)) → filter_map (image_named engine) names ≡ filter_map (λ name. option_map (λ (h : AcceptedTable). h.image) (find_table tables name)) names
  images_kept names = λ i. filter_map (λ name. image_kept name i) names

  module _ (s : Select) where
    bound_same : bound_of (schemas_of engine) s ≡ bound_of (schemas_in tables) s
    bound_same = ap (λ (schemas : Schemas). bound_of schemas s) schemas_kept

    -- a fault of `bind` over the engine
    pub refused_by : (why : BindFault) → is_cause (refusal_of why) (bound_of (schemas_of engine) s) → IsCause (bind_error why) (selected tables s)
    refused_by why told = refused_as tables s why (subst (λ (r : Result Query Refusal). is_cause (refusal_of why) r) bound_same told)

    module _ (query : Query) (images : List TableImage) (told : bound_of (schemas_of engine) s ≡ Ok query) (found : images ≡ filter_map (image_named engine) s.tables) (formed : is_select s ≡ true) where
      bound_there : bound_of (schemas_in tables) s ≡ Ok query
      bound_there = sym bound_same ∙ told

      images_there : images ≡ images_in tables s
      images_there = found ∙ images_kept s.tables

      -- the query over the images that the engine finds
      pub over_found : IsQueryOf (schemas_in tables) s images query
      over_found = subst (λ (is : List TableImage). IsQueryOf (schemas_in tables) s is query) (sym images_there) (over_images tables s engine.limits of.sound query bound_there of.limits formed)

      -- the answer to it
      pub answered_found : AnswersInAnyOrder → (given : Answer) → ((schemas : Schemas) (t : Select) → IsQueryOf schemas t images query → given ≡ answer (scope_of schemas t) t (image_rows images)) → selected tables s ≡ Ok given
      answered_found any_order given is =
          answered_as tables s engine.limits of.sound query bound_there any_order given
          (is (schemas_in tables) s over_found ∙ ap (λ (found_images : List TableImage). answer (scope_of (schemas_in tables) s) s (image_rows found_images)) images_there)

      -- and what is decoded for it
      pub decoded_found : (old new : ℕ) → ((schemas : Schemas) (t : Select) → IsQueryOf schemas t images query → new ≤ old + most_decodes query (scope_of schemas t) (image_rows images)) → new ≤ old + most_decoded tables s
      decoded_found old new is =
          let most : most_decodes query (scope_of (schemas_in tables) s) (image_rows images) ≡ most_decoded tables s =
          (ap (λ (found_images : List TableImage). most_decodes query (scope_of (schemas_in tables) s) (image_rows found_images)) images_there ∙ decoded_as tables s engine.limits of.sound query bound_there) in
          subst (λ n. new ≤ old + n) most (is (schemas_in tables) s over_found)
