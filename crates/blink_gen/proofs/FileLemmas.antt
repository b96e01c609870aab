-- Files with one more record.
use Rattle.std.proofs.Common.{◌≡◌, ℕ, ◌+◌, ◌++◌, [], codes, ◌∷◌, arith}
use Rattle.blink_gen.specs.Demo.{month_file, month_record, customer_file, customer_record, part_file, part_record, order_file, order_header}
use Rattle.blink_gen.specs.Orders.{record_behind}
use Rattle.blink_gen.specs.Records.{record_of}
use Rattle.blink_gen.proofs.RecordLemmas.{one_record_more}

pub month_file-suc : (k : ℕ) → month_file k ++ month_record k ≡ month_file (k + 1)
unfolding month_file
month_file-suc k = one_record_more month_record (record_of (codes "d_datekey" ∷ codes "d_year" ∷ codes "d_month" ∷ [])) 0 k k (omega arith)

pub customer_file-suc : (k : ℕ) → customer_file k ++ customer_record (k + 1) ≡ customer_file (k + 1)
unfolding customer_file
customer_file-suc k = one_record_more customer_record (record_of (codes "c_custkey" ∷ codes "c_city" ∷ codes "c_region" ∷ [])) 1 k (k + 1) (omega arith)

pub part_file-suc : (k : ℕ) → part_file k ++ part_record (k + 1) ≡ part_file (k + 1)
unfolding part_file
part_file-suc k = one_record_more part_record (record_of (codes "p_partkey" ∷ codes "p_category" ∷ codes "p_brand" ∷ [])) 1 k (k + 1) (omega arith)

pub order_file-suc : (seed k : ℕ) → order_file seed k ++ record_behind seed k ≡ order_file seed (k + 1)
unfolding order_file
order_file-suc seed k = one_record_more (record_behind seed) order_header 0 k k (omega arith)
