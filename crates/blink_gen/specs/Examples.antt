-- Worked files of a demonstration, as facts that compute. Source: this project's own.
use Rattle.std.specs.Prelude.{◌≡◌, ◌-◌, ◌/◌, [], ◌∷◌, codes, length, map, take, drop, refl}
use Rattle.std.specs.Fmt.{digits}
use Rattle.blink_lists.specs.Lists.{numbers_from}
use Rattle.blink_gen.specs.Generator.{next_state, state_after}
use Rattle.blink_gen.specs.Demo.{month_file, customer_file, part_file, order_file}

-- the first numbers of seed 1, and its first order
abbrev pub OrdersDrawn : Type 0
OrdersDrawn =
    (map (λ n. state_after n 1 / 65536) (numbers_from 1 8) ≡ 16838 ∷ 5758 ∷ 10113 ∷ 17515 ∷ 31051 ∷ 5627 ∷ 23010 ∷ 7419 ∷ [])
    × (order_file 1 1 ≡ codes "lo_orderkey,lo_custkey,lo_partkey,lo_orderdate,lo_quantity,lo_discount,lo_price,lo_revenue\n1,39,14,199608,28,9,519,47229\n")

pub orders_drawn_lem : OrdersDrawn
unfolding digits next_state order_file
orders_drawn_lem = (refl, refl)

-- the ends of the other files
abbrev pub FilesListed : Type 0
FilesListed =
    (take 41 (month_file 84) ≡ codes "d_datekey,d_year,d_month\n199201,1992,1\n19")
    × (drop (length (month_file 84) - 15) (month_file 84) ≡ codes "199812,1998,12\n")
    × (customer_file 2 ≡ codes "c_custkey,c_city,c_region\n1,CITY1,AMERICA\n2,CITY2,ASIA\n")
    × (drop (length (customer_file 200) - 17) (customer_file 200) ≡ codes "200,CITY0,AFRICA\n")
    × (part_file 2 ≡ codes "p_partkey,p_category,p_brand\n1,CAT1,BRAND1\n2,CAT2,BRAND2\n")
    × (drop (length (part_file 100) - 16) (part_file 100) ≡ codes "100,CAT0,BRAND0\n")

pub files_listed_lem : FilesListed
unfolding digits month_file customer_file part_file
files_listed_lem = (refl, refl, refl, refl, refl, refl)
