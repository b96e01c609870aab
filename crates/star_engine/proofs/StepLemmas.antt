-- What calls make of the tables.
use Rattle.std.proofs.Common.{◌≡◌, ◌≢◌, ◌<◌, ◌≤◌, ◌+◌, ℕ, zero, suc, Bool, true, false, cond, List, [], ◌∷◌, ◌++◌, map, length, get_or, slice_set, position, is_some, nat_le, Option, Some, None, Result, Ok, Err, refl, sym, ap, ◌∙◌, subst, arith}
use Rattle.std.specs.List.{list_any, remove}
use Rattle.std.specs.Str.{bytes_eq}
use Rattle.std.proofs.lemmas.List.{append-nil, length-map, length-append, map-set, map-append}
use Rattle.std.proofs.lemmas.Bool.{le-leb, lt-leb}
use Rattle.blink_base.specs.declared.refusal.Refusal.{Refusal}
use Rattle.blink_base.specs.declared.refusal.Refusal.TheVariants as refusal
use Rattle.blink_base.specs.declared.schema.Schema.{Schema}
use Rattle.blink_base.specs.Values.{Row}
use Rattle.blink_lists.specs.Lists.{first_of}
use Rattle.blink_lists.specs.Rearrangement.{Rearranged}
use Rattle.blink_lists.specs.Rearrangement.Rearranged.{followed}
use Rattle.blink_lists.proofs.RearrangementLemmas.{length-rearranged, behind, itself}
use Rattle.star_sql.specs.declared.ast.ColumnDef.{ColumnDef}
use Rattle.cell_layout.specs.declared.fault.LayoutError.{LayoutError}
use Rattle.cell_layout.specs.declared.fault.LayoutError.TheVariants.{Memory}
use Rattle.cell_layout.specs.Image.{TableImage, rows_of, row_count}
use Rattle.cell_layout.specs.Layout.{laid, empty_image}
use Rattle.cell_layout.specs.Refusals.{refusal_of}
use Rattle.cell_layout.specs.Valid.{is_valid}
use Rattle.star_engine.specs.declared.engine.Engine.{Engine}
use Rattle.star_engine.specs.declared.table.Table.{Table}
use Rattle.star_engine.specs.declared.fault.EngineError.{EngineError}
use Rattle.star_engine.specs.declared.fault.EngineError.TheVariants as fault
use Rattle.star_engine.specs.AddRows.{IsAdded, IsAddedAt}
use Rattle.star_engine.specs.Causes.{IsCause}
use Rattle.star_engine.specs.State.{AcceptedTable, Tables, find_table, has_table, with_table, without_table, and_table}
use Rattle.star_engine.specs.Changes.{when, if_full, roomed, are_bad_columns, created, schema_of, new_table, added, add_found, add_rows, added_to, unless, dropped, drop_found, reorganized, reorganize_found}
use Rattle.blink_base.specs.declared.limits.TheConstants.{MOST_TABLES}
use Rattle.star_engine.specs.Faults.{layout_error}
use Rattle.star_engine.specs.EngineRepr.{table_of, IsEngineOf, HasTables, IsKeyless, IsMade, IsMadeWith}
use Rattle.star_engine.specs.Soundness.{IsSoundTable}
use Rattle.star_engine.proofs.TableListLemmas.{Finding, found_at, names}
use Rattle.blink_lists.proofs.FindLemmas.{place-map, place_is, no_place, finds, finds_none}
use Rattle.star_engine.proofs.RefusalLemmas.{as_refusal, first_told, cause_told, few_rows, none_refused, only_memory}
use Rattle.star_engine.specs.declared.growth.Growth.{Growth}
use Rattle.star_engine.specs.declared.growth.Growth.TheVariants.{Anew}
use Rattle.star_engine.proofs.SoundnessLemmas.{sound-with, sound-without, sound-and}

none_named : (tables : Tables) (name : List ℕ) → has_table tables name ≡ false → list_any (bytes_eq name) (names tables) ≡ false
none_named [] name e = refl
none_named (x ∷ xs) name e = by (bytes_eq name x.name) refl e (none_named xs name)
  where
    by : (b : Bool) → bytes_eq name x.name ≡ b → is_some (cond b (Some x) (find_table xs name)) ≡ false → (has_table xs name ≡ false → list_any (bytes_eq name) (names xs) ≡ false) → list_any (bytes_eq name) (names (x ∷ xs)) ≡ false
    by true p e rest = cc
    by false p e rest = rw p (rest e)

module _ {M : Type 0} where
  -- whether a table of the engine has the name
  abbrev pub called : List ℕ → Table M → Bool
  called name table = bytes_eq name table.name

  module _ (tables : Tables) (engine : Engine M) (name : List ℕ) (of : IsEngineOf tables engine) where
    -- a name without a table
    pub unknown : position (called name) engine.tables ≡ None → find_table tables name ≡ None
    unknown none =
        let no : position (called name) (map table_of tables) ≡ None = ap (position (called name)) (sym of.accepted) ∙ none in
        let le = no_place (called name) (map table_of tables) no in
        let same = place-map table_of (called name) tables in
        let long = length-map tables (table_of {M = M}) in
        finds_none (λ h. bytes_eq name h.name) tables (omega arith)

    -- the table of a name, at its place
    pub known : (at : ℕ) → position (called name) engine.tables ≡ Some at → Finding tables name at
    known at is =
        let there : position (called name) (map table_of tables) ≡ Some at = ap (position (called name)) (sym of.accepted) ∙ is in
        let place = place_is (called name) (map table_of tables) at there in
        let long = length-map tables (table_of {M = M}) in
        found_at name tables at of.sound.distinct (place.0 ∙ place-map table_of (called name) tables) (omega (arith, place.1, long))

    -- whether a name has a table
    pub there : (b : Bool) → b ≡ is_some (position (called name) engine.tables) → has_table tables name ≡ b
    there b told = by (position (called name) engine.tables) refl told
      where
        by : (o : Option ℕ) → position (called name) engine.tables ≡ o → b ≡ is_some o → has_table tables name ≡ b
        by None is told = ap is_some (unknown is) ∙ sym told
        by (Some at) is told = ap is_some (known at is).is.found ∙ sym told

    -- a name without a table is refused
    pub no_drop : position (called name) engine.tables ≡ None → dropped tables name ≡ Err (refusal.UnknownTable name)
    no_drop none = ap (drop_found tables name) (unknown none)

    pub no_add : (growth : Growth) (read : Schema → Result (List Row) Refusal) → position (called name) engine.tables ≡ None → added engine.limits growth tables name read ≡ Err (refusal.UnknownTable name)
    no_add growth read none = ap (add_found engine.limits growth tables name read) (unknown none)

    pub no_order : position (called name) engine.tables ≡ None → reorganized tables name ≡ Err (refusal.UnknownTable name)
    no_order none = ap (reorganize_found tables name) (unknown none)

    -- whether there is room for one more table
    pub is_full : MOST_TABLES ≤ length engine.tables → nat_le MOST_TABLES (length tables) ≡ true
    is_full le = let long = ap length of.accepted ∙ length-map tables (table_of {M = M}) in le-leb 64 (length tables) (omega arith)

    pub has_room : length engine.tables < MOST_TABLES → nat_le MOST_TABLES (length tables) ≡ false
    has_room lt = let long = ap length of.accepted ∙ length-map tables (table_of {M = M}) in lt-leb 64 (length tables) (omega arith)

    pub room_exists : has_table tables name ≡ true → roomed tables name ≡ Err (refusal.TableExists name)
    room_exists e = ap (λ b. unless (first_of (when b (refusal.TableExists name) ++ if_full tables)) tables) e

    pub room_full : has_table tables name ≡ false → nat_le MOST_TABLES (length tables) ≡ true → roomed tables name ≡ Err refusal.TooManyTables
    room_full e f = λ i. unless (first_of (when (e i) (refusal.TableExists name) ++ when (f i) refusal.TooManyTables)) tables

    pub room_there : has_table tables name ≡ false → nat_le MOST_TABLES (length tables) ≡ false → roomed tables name ≡ Ok tables
    room_there e f = λ i. unless (first_of (when (e i) (refusal.TableExists name) ++ when (f i) refusal.TooManyTables)) tables

    module _ (columns : List ColumnDef) where
      abbrev told_by : Bool → Bool → Bool → Result Tables Refusal
      told_by b c d =
          unless (first_of (when b (refusal.TableExists name) ++ when c refusal.BadColumns ++ when d refusal.TooManyTables)) (and_table tables (new_table name (schema_of columns)))

      pub create_exists : has_table tables name ≡ true → created tables name columns ≡ Err (refusal.TableExists name)
      create_exists e = λ i. told_by (e i) (are_bad_columns columns) (nat_le MOST_TABLES (length tables))

      pub create_bad : has_table tables name ≡ false → are_bad_columns columns ≡ true → created tables name columns ≡ Err refusal.BadColumns
      create_bad e f = λ i. told_by (e i) (f i) (nat_le MOST_TABLES (length tables))

      pub create_full : has_table tables name ≡ false → are_bad_columns columns ≡ false → nat_le MOST_TABLES (length tables) ≡ true → created tables name columns ≡ Err refusal.TooManyTables
      create_full e f h = λ i. told_by (e i) (f i) (h i)

      pub create_made : (image : TableImage) (new : List (Table M)) → has_table tables name ≡ false → are_bad_columns columns ≡ false → length engine.tables < MOST_TABLES
          → image ≡ empty_image (schema_of columns) → is_valid image ≡ true → new ≡ engine.tables ++ record { name = name; image = image } ∷ []
          → IsMade (created tables name columns) (record engine { tables = new })
      create_made image new e f lt is valid made =
          let h = new_table name (schema_of columns) in
          let room = has_room lt in
          let one : Table M = record { name = name; image = image } in
          let same : one ≡ table_of h = (λ i. record { name = name; image = is i }) in
          let few = lt in
          let long = ap length of.accepted ∙ length-map tables (table_of {M = M}) in
          record {
            tables = and_table tables h;
            given = λ i. told_by (e i) (f i) (room i);
            kept = record {
              accepted = made ∙ (λ i. of.accepted i ++ same i ∷ []) ∙ sym (map-append table_of tables (h ∷ []));
              limits = of.limits;
              sound = sound-and engine.limits tables h of.sound
                  (record { valid = ap is_valid (sym is) ∙ valid; few = omega arith; rows = itself [] }) (none_named tables name e) (omega arith);
            };
          }

    module _ (at : ℕ) (is : position (called name) engine.tables ≡ Some at) where
      abbrev pub finding : Finding tables name at
      finding = known at is

      -- what stands at the place
      pub stands : (d : Table M) → get_or engine.tables at d ≡ table_of finding.accepted
      stands d =
          let within = finding.is.within in
          ap (λ ts. get_or ts at d) of.accepted ∙ got_shown tables at d finding.is.within ∙ ap table_of (finding.is.here finding.accepted)
        where
          got_shown : (hs : Tables) (k : ℕ) (d : Table M) → k < length hs → get_or (map table_of hs) k d ≡ table_of (get_or hs k finding.accepted)
          got_shown [] k d lt = absurd (omega (arith, lt))
          got_shown (h ∷ hs) zero d lt = refl
          got_shown (h ∷ hs) (suc k) d lt = got_shown hs k d (omega (arith, lt))

      pub was_sound : IsSoundTable engine.limits finding.accepted
      was_sound = let P : AcceptedTable → Type 0 = IsSoundTable engine.limits in subst P (finding.is.here finding.accepted) (of.sound.each at finding.accepted finding.is.within)

      -- a batch is refused as the definition says
      pub refused : (growth : Growth) (read : Schema → Result (List Row) Refusal) (batch : List Row) (why : LayoutError) (d : Table M) → read (get_or engine.tables at d).image.schema ≡ Ok batch
          → (why ≢ Memory → refusal_of engine.limits.rows (get_or engine.tables at d).image batch ≡ Some why)
          → IsCause (layout_error why) (added engine.limits growth tables name read)
      refused growth read batch why d told refusal =
          let accepted = finding.accepted in
          let here = stands d in
          let is_told : read accepted.image.schema ≡ Ok batch = ap (λ (t : Table M). read t.image.schema) (sym here) ∙ told in
          let result : added engine.limits growth tables name read ≡ unless (as_refusal (refusal_of engine.limits.rows accepted.image batch)) (with_table tables (added_to growth accepted batch), length batch) =
          (ap (add_found engine.limits growth tables name read) finding.is.found ∙ ap (add_rows engine.limits growth tables accepted) is_told
          ∙ ap (λ o. unless o (with_table tables (added_to growth accepted batch), length batch)) (first_told engine.limits accepted batch was_sound.rows)) in
          rw result (cause_told why (refusal_of engine.limits.rows accepted.image batch) _ (λ other. ap (λ (t : Table M). refusal_of engine.limits.rows t.image batch) (sym here) ∙ refusal other))

      -- a batch that can't be read is refused
      pub unread : (growth : Growth) (read : Schema → Result (List Row) Refusal) (e : EngineError) (d : Table M) → IsCause e (read (get_or engine.tables at d).image.schema) → IsCause e (added engine.limits growth tables name read)
      unread growth read e d told =
          let accepted = finding.accepted in
          let is_told : IsCause e (read accepted.image.schema) = (let P : Table M → Type 0 = λ t. IsCause e (read t.image.schema) in subst P (stands d) told) in
          let result : added engine.limits growth tables name read ≡ add_rows engine.limits growth tables accepted (read accepted.image.schema) = ap (add_found engine.limits growth tables name read) finding.is.found in
          rw result (by e (read accepted.image.schema) is_told)
        where
          by : (e : EngineError) (r : Result (List Row) Refusal) → IsCause e r → IsCause e (add_rows engine.limits growth tables finding.accepted r)
          by (fault.Refused why) r told = rw told refl
          by fault.Memory r told = tt

      module _ (growth : Growth) (new : List (Table M)) (batch : List Row) (d : Table M) (a : IsAddedAt growth engine.tables new at batch d) where
        abbrev accepted' : AcceptedTable
        accepted' = added_to growth finding.accepted batch

        is_added : IsAdded growth (table_of finding.accepted) a.table batch
        is_added = let P : Table M → Type 0 = λ t. IsAdded growth t a.table batch in subst P (stands d) a.added

        is_table : a.table ≡ table_of accepted'
        is_table = λ i. record { name = is_added.name i; image = is_added.image i }

        is_kept : new ≡ map table_of (with_table tables accepted')
        is_kept =
            a.tables ∙ ap (λ ts. slice_set ts at a.table) of.accepted ∙ ap (slice_set (map table_of tables) at) is_table ∙ sym (map-set table_of tables at accepted')
            ∙ ap (map table_of) (sym (finding.is.replaced accepted' refl))

        is_sound : row_count finding.accepted.image + length batch ≤ engine.limits.rows → IsSoundTable engine.limits accepted'
        is_sound few = record {
          valid = ap is_valid (sym is_added.image) ∙ is_added.valid;
          few =
              let same = ap row_count is_added.image in
              let long = length-rearranged is_added.rows in
              let both = length-append (rows_of finding.accepted.image) batch in
              omega arith;
          rows = followed (behind batch was_sound.rows) (let P : TableImage → Type 0 = λ im. Rearranged (rows_of finding.accepted.image ++ batch) (rows_of im) in subst P is_added.image is_added.rows);
        }

        is_engine : row_count finding.accepted.image + length batch ≤ engine.limits.rows → IsEngineOf (with_table tables accepted') (record engine { tables = new })
        is_engine few = record { accepted = is_kept; limits = of.limits; sound = sound-with engine.limits tables accepted' of.sound (is_sound few) }

        room : refusal_of engine.limits.rows (get_or engine.tables at d).image batch ≡ None → refusal_of engine.limits.rows finding.accepted.image batch ≡ None
        room none = ap (λ (t : Table M). refusal_of engine.limits.rows t.image batch) (sym (stands d)) ∙ none

        -- a batch is added as the definition says
        pub made : (read : Schema → Result (List Row) Refusal) → read (get_or engine.tables at d).image.schema ≡ Ok batch → refusal_of engine.limits.rows (get_or engine.tables at d).image batch ≡ None
            → IsMadeWith (added engine.limits growth tables name read) (length batch) (record engine { tables = new })
        made read told none =
            let accepted = finding.accepted in
            let is_told : read accepted.image.schema ≡ Ok batch = ap (λ (t : Table M). read t.image.schema) (sym (stands d)) ∙ told in
            record {
              tables = with_table tables accepted';
              given =
                  ap (add_found engine.limits growth tables name read) finding.is.found ∙ ap (add_rows engine.limits growth tables accepted) is_told
                  ∙ ap (λ o. unless o (with_table tables accepted', length batch)) (first_told engine.limits accepted batch was_sound.rows ∙ ap as_refusal (room none));
              kept = is_engine (few_rows engine.limits.rows accepted.image batch (room none));
            }

      -- rows are laid out anew as the definition says
      pub remade : (new : List (Table M)) (d : Table M) → IsAddedAt Anew engine.tables new at [] d → IsMade (reorganized tables name) (record engine { tables = new })
      remade new d a =
          let accepted = finding.accepted in
          let same : added_to Anew accepted [] ≡ record { name = accepted.name; rows = accepted.rows; image = laid accepted.image.schema (rows_of accepted.image) } =
          (λ i. record { name = accepted.name; rows = append-nil accepted.rows i; image = laid accepted.image.schema (append-nil (rows_of accepted.image) i) }) in
          record {
            tables = with_table tables (added_to Anew accepted []);
            given = ap (reorganize_found tables name) finding.is.found ∙ ap (λ h. Ok (with_table tables h)) (sym same);
            kept = is_engine Anew new [] d a (let few = was_sound.few in omega arith);
          }

      pub never : (why : LayoutError) (d : Table M) → (why ≢ Memory → refusal_of engine.limits.rows (get_or engine.tables at d).image [] ≡ Some why) → IsCause (layout_error why) (reorganized tables name)
      never why d refusal =
          let none = ap (λ (t : Table M). refusal_of engine.limits.rows t.image []) (stands d) ∙ none_refused engine.limits.rows finding.accepted.image was_sound.few in
          let only : why ≡ Memory = only_memory _ why none refusal in
          rw only tt

      -- a table is taken out as the definition says
      pub taken : IsMade (dropped tables name) (record engine { tables = remove engine.tables at })
      taken = record {
        tables = without_table tables name;
        given = ap (drop_found tables name) finding.is.found;
        kept = record {
          accepted = ap (λ ts. remove ts at) of.accepted ∙ removed tables at ∙ ap (map table_of) (sym finding.is.left);
          limits = of.limits;
          sound = sound-without engine.limits tables name of.sound;
        };
      }
        where
          removed : (hs : Tables) (k : ℕ) → remove (map (table_of {M = M}) hs) k ≡ map table_of (remove hs k)
          removed [] zero = refl
          removed [] (suc k) = refl
          removed (h ∷ hs) zero = refl
          removed (h ∷ hs) (suc k) = ap (λ l. table_of h ∷ l) (removed hs k)

  module _ (tables : Tables) (engine : Engine M) (name : List ℕ) (of : IsEngineOf tables engine) (at : ℕ) (is : position (called name) engine.tables ≡ Some at) where
    here : Table M
    here = table_of (finding tables engine name of at is).accepted

    -- the same, as calls say it
    pub unread_there : (growth : Growth) (read : Schema → Result (List Row) Refusal) (e : EngineError) → ((d : Table M) → IsCause e (read (get_or engine.tables at d).image.schema)) → IsCause e (added engine.limits growth tables name read)
    unread_there growth read e told = unread tables engine name of at is growth read e here (told here)

    pub refused_there : (growth : Growth) (read : Schema → Result (List Row) Refusal) (batch : List Row) (why : LayoutError) → ((d : Table M) → read (get_or engine.tables at d).image.schema ≡ Ok batch)
        → ((d : Table M) → why ≢ Memory → refusal_of engine.limits.rows (get_or engine.tables at d).image batch ≡ Some why) → IsCause (layout_error why) (added engine.limits growth tables name read)
    refused_there growth read batch why told refusal = refused tables engine name of at is growth read batch why here (told here) (refusal here)

    pub made_there : (growth : Growth) (read : Schema → Result (List Row) Refusal) (batch : List Row) (new : List (Table M)) (count : ℕ) → count ≡ length batch → ((d : Table M) → read (get_or engine.tables at d).image.schema ≡ Ok batch)
        → ((d : Table M) → refusal_of engine.limits.rows (get_or engine.tables at d).image batch ≡ None) → ((d : Table M) → IsAddedAt growth engine.tables new at batch d)
        → IsMadeWith (added engine.limits growth tables name read) count (record engine { tables = new })
    made_there growth read batch new count counted told room a = rw counted (made tables engine name of at is growth new batch here (a here) read (told here) (room here))

    pub never_there : (why : LayoutError) (batch : List Row) → batch ≡ [] → ((d : Table M) → why ≢ Memory → refusal_of engine.limits.rows (get_or engine.tables at d).image batch ≡ Some why) → IsCause (layout_error why) (reorganized tables name)
    never_there why batch empty refusal = never tables engine name of at is why here (rw empty at (refusal here))

    pub remade_there : (new : List (Table M)) (batch : List Row) → batch ≡ [] → ((d : Table M) → IsAddedAt Anew engine.tables new at batch d) → IsMade (reorganized tables name) (record engine { tables = new })
    remade_there new batch empty a = remade tables engine name of at is new here (rw empty at (a here))

    pub taken_there : (new : List (Table M)) → new ≡ remove engine.tables at → IsMade (dropped tables name) (record engine { tables = new })
    taken_there new left = rw left (taken tables engine name of at is)

  -- the named table has no key
  pub keyless_at : (engine : Engine M) (name : List ℕ) (at : ℕ) → IsKeyless engine name → position (called name) engine.tables ≡ Some at → (d : Table M) → (get_or engine.tables at d).image.schema.key ≡ None
  keyless_at engine name at keyless is d =
      let place = place_is (called name) engine.tables at is in
      keyless (get_or engine.tables at d) (finds (called name) engine.tables d (omega (arith, place.0, place.1)) ∙ ap (λ k. Some (get_or engine.tables k d)) (sym place.0))

  -- engines keep tables after calls
  pub sound_made : (engine : Engine M) (told : Result Tables Refusal) → IsMade told engine → HasTables engine
  sound_made engine told m = (m.tables, m.kept)

  pub sound_made_with : (engine : Engine M) (told : Result (Tables × ℕ) Refusal) (count : ℕ) → IsMadeWith told count engine → HasTables engine
  sound_made_with engine told count m = (m.tables, m.kept)

  -- the image at a place is valid
  pub valid_at : (engine : Engine M) (name : List ℕ) (at : ℕ) → HasTables engine → position (called name) engine.tables ≡ Some at → (d : Table M) → is_valid (get_or engine.tables at d).image ≡ true
  valid_at engine name at has is d =
      ap (λ (t : Table M). is_valid t.image) (stands has.0 engine name has.1 at is d) ∙ (was_sound has.0 engine name has.1 at is).valid
