-- The files and the script of a demonstration. Source: this project's own; the tables are after the star schema benchmark (O'Neil et al., TPCTC 2009).
use Rattle.std.specs.Prelude.{ℕ, ◌+◌, ◌/◌, ◌%◌, List, [], ◌∷◌, ◌++◌, codes, slice_index_or}
use Rattle.std.specs.List.{flat_map}
use Rattle.std.specs.FinMap.{empty, insert}
use Rattle.std.specs.Fmt.{decimal}
use Rattle.blink_lists.specs.Lists.{numbers_from}
use Rattle.blink_edge.specs.Files.{Files}
use Rattle.blink_gen.specs.Orders.{month_key, record_behind}
use Rattle.blink_gen.specs.Records.{Bytes, record_of, numbers_record}

-- the record of the month behind k others
abbrev pub month_record : ℕ → Bytes
month_record k = numbers_record (month_key k ∷ (1992 + k / 12) ∷ (k % 12 + 1) ∷ [])

-- the file of so many months
unfoldable pub month_file : ℕ → Bytes
month_file n = record_of (codes "d_datekey" ∷ codes "d_year" ∷ codes "d_month" ∷ []) ++ flat_map month_record (numbers_from 0 n)

-- the regions of customers
abbrev pub regions : List Bytes
regions = codes "AFRICA" ∷ codes "AMERICA" ∷ codes "ASIA" ∷ codes "EUROPE" ∷ codes "MIDDLE EAST" ∷ []

-- the record of the customer of this number
abbrev pub customer_record : ℕ → Bytes
customer_record k = record_of (decimal k ∷ (codes "CITY" ++ decimal (k % 20)) ∷ slice_index_or regions (k % 5) [] ∷ [])

-- the file of so many customers
unfoldable pub customer_file : ℕ → Bytes
customer_file n = record_of (codes "c_custkey" ∷ codes "c_city" ∷ codes "c_region" ∷ []) ++ flat_map customer_record (numbers_from 1 n)

-- the record of the part of this number
abbrev pub part_record : ℕ → Bytes
part_record k = record_of (decimal k ∷ (codes "CAT" ++ decimal (k % 5)) ∷ (codes "BRAND" ++ decimal (k % 25)) ∷ [])

-- the file of so many parts
unfoldable pub part_file : ℕ → Bytes
part_file n = record_of (codes "p_partkey" ∷ codes "p_category" ∷ codes "p_brand" ∷ []) ++ flat_map part_record (numbers_from 1 n)

-- the names of an order's columns
abbrev pub order_header : Bytes
order_header =
    record_of (codes "lo_orderkey" ∷ codes "lo_custkey" ∷ codes "lo_partkey" ∷ codes "lo_orderdate" ∷ codes "lo_quantity" ∷ codes "lo_discount" ∷ codes "lo_price" ∷ codes "lo_revenue" ∷ [])

-- the file of so many orders, drawn from a seed
unfoldable pub order_file : ℕ → ℕ → Bytes
order_file seed rows = order_header ++ flat_map (record_behind seed) (numbers_from 0 rows)

-- the four files: seven years of months, 200 customers, 100 parts, and so many orders
abbrev pub demo_files : ℕ → ℕ → Files
demo_files seed rows =
    let of_months : Files = insert empty (codes "date.csv") (month_file 84) in
    let and_customers : Files = insert of_months (codes "customer.csv") (customer_file 200) in
    let and_parts : Files = insert and_customers (codes "part.csv") (part_file 100) in
    insert and_parts (codes "lineorder.csv") (order_file seed rows)

-- the script: the four tables, the files loaded into them, and eight queries
unfoldable pub demo_script : Bytes
demo_script =
    codes "CREATE TABLE date (d_datekey INT PRIMARY KEY, d_year INT, d_month INT);\n"
    ++ codes "CREATE TABLE customer (c_custkey INT PRIMARY KEY, c_city TEXT, c_region TEXT);\n"
    ++ codes "CREATE TABLE part (p_partkey INT PRIMARY KEY, p_category TEXT, p_brand TEXT);\n"
    ++ codes "CREATE TABLE lineorder (lo_orderkey INT, lo_custkey INT, lo_partkey INT,\n"
    ++ codes "  lo_orderdate INT, lo_quantity INT, lo_discount INT, lo_price INT,\n"
    ++ codes "  lo_revenue INT);\n"
    ++ codes "LOAD INTO date FROM 'date.csv';\n"
    ++ codes "LOAD INTO customer FROM 'customer.csv';\n"
    ++ codes "LOAD INTO part FROM 'part.csv';\n"
    ++ codes "LOAD INTO lineorder FROM 'lineorder.csv';\n"
    ++ codes "SELECT SUM(lo_price*lo_discount) AS revenue FROM lineorder, date\n"
    ++ codes "  WHERE lo_orderdate = d_datekey AND d_year = 1996\n"
    ++ codes "  AND lo_discount BETWEEN 1 AND 3 AND lo_quantity < 25;\n"
    ++ codes "SELECT SUM(lo_price*lo_discount) AS revenue FROM lineorder, date\n"
    ++ codes "  WHERE lo_orderdate = d_datekey AND d_datekey = 199608\n"
    ++ codes "  AND lo_discount BETWEEN 7 AND 10 AND lo_quantity BETWEEN 26 AND 35;\n"
    ++ codes "SELECT SUM(lo_revenue) AS r, d_year, p_brand FROM lineorder, date, part\n"
    ++ codes "  WHERE lo_orderdate = d_datekey AND lo_partkey = p_partkey\n"
    ++ codes "  AND p_category = 'CAT4' GROUP BY d_year, p_brand\n"
    ++ codes "  ORDER BY d_year, p_brand;\n"
    ++ codes "SELECT lo_discount, COUNT(*), AVG(lo_quantity) FROM lineorder\n"
    ++ codes "  GROUP BY lo_discount;\n"
    ++ codes "SELECT c_city, SUM(lo_revenue) AS r FROM lineorder, customer, date\n"
    ++ codes "  WHERE lo_custkey = c_custkey AND lo_orderdate = d_datekey\n"
    ++ codes "  AND c_region IN ('ASIA', 'MIDDLE EAST') AND d_year >= 1996\n"
    ++ codes "  GROUP BY c_city ORDER BY r DESC LIMIT 5;\n"
    ++ codes "SELECT MIN(lo_price), MAX(lo_price), COUNT(*) FROM lineorder\n"
    ++ codes "  WHERE lo_partkey <= 10 OR lo_discount > 8;\n"
    ++ codes "SELECT p_category, MAX(p_brand) FROM part WHERE p_brand LIKE 'BRAND1%'\n"
    ++ codes "  GROUP BY p_category;\n"
    ++ codes "SELECT lo_orderkey, d_month, c_city FROM lineorder, customer, part, date\n"
    ++ codes "  WHERE lo_custkey = c_custkey AND lo_partkey = p_partkey\n"
    ++ codes "  AND lo_orderdate = d_datekey AND p_brand = 'BRAND14'\n"
    ++ codes "  ORDER BY lo_orderkey LIMIT 3;\n"
