-- One step of a reader that stands between two records.
use Rattle.std.proofs.Common.{◌≡◌, ◌∙◌, ℕ, List, [], ◌∷◌, Option, Some, None, IsSome, Bool, true, false, not, inl, refl}
use Rattle.std.specs.Bool.{MatchBool}
use Rattle.std.specs.Borrow.{Bor}
use Rattle.std.proofs.lemmas.Bool.{false≢true}
use Rattle.csv.specs.Reading.{Reached, ReadRecord, default_config, took_first, reader_state}
use Rattle.csv.specs.declared.reader.Reader.{Reader}
use Rattle.csv.proofs.ReadFacts.{rows-end, rows-more}
use Rattle.blink_loader.specs.RecordsLeft.{IsBetween, IsReading, records_left, source_left}
use Rattle.blink_loader.proofs.RecordLemmas.{record_taken, none_left}

some_is : {X : Type 0} (o : Option X) → IsSome o → (x : X) × (o ≡ Some x)
some_is None h = absurd (false≢true h)
some_is (Some x) h = (x, refl)

-- a record is read
after_record : (reader after : Reader (Bor (List ℕ))) (row : List (List ℕ)) → IsBetween reader
    → ReadRecord (λ s. Some s.now) reader after true row → took_first after ≡ true
    → IsBetween after × (records_left false reader ≡ row ∷ records_left false after)
unfolding Reached
after_record reader after row at read first =
    let known = some_is (source_left reader) at.known in
    let xs = known.0 in
    let more = rows-more (λ (s : Bor (List ℕ)). Some s.now) reader after row default_config (reader_state reader) xs xs [] at.config known.1 (refl, refl) read in
    let taken = record_taken default_config (reader_state reader) (reader_state after) xs more.0 row at.between more.2 in (
      record { trims = read.3 ∙ at.trims; ready = inl first; config = read.2 ∙ at.config; known = rw more.1 refl; between = taken.0 },
      rw (known.1, more.1) taken.1,
    )

-- none is left
at_end : (reader after : Reader (Bor (List ℕ))) (row : List (List ℕ)) → IsBetween reader
    → ReadRecord (λ s. Some s.now) reader after false row → records_left false reader ≡ []
at_end reader after row at read =
    let known = some_is (source_left reader) at.known in
    let end = rows-end (λ (s : Bor (List ℕ)). Some s.now) reader after row default_config known.0 at.config known.1 read in
    rw known.1 (none_left default_config (reader_state reader) known.0 end)

-- a read gives the first of the records that are left, where one is
pub after_read : (reader after : Reader (Bor (List ℕ))) (found : Bool) (row : List (List ℕ)) → IsBetween reader
    → ReadRecord (λ s. Some s.now) reader after found row → took_first after ≡ true
    → IsReading (not found) after × MatchBool found (records_left false reader ≡ row ∷ records_left (not found) after) (records_left false reader ≡ [])
after_read reader after true row at read first = after_record reader after row at read first
after_read reader after false row at read first = (tt, at_end reader after row at read)
