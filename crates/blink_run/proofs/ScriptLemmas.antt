-- Scripts that name no file.
use Rattle.std.proofs.Common.{◌≡◌, true, false, List, [], ◌∷◌, ◌++◌, sym, refl}
use Rattle.std.specs.Prelude.{All, Ok, Err}
use Rattle.std.proofs.lemmas.List.Elements.{All-head, All-tail, All-same}
use Rattle.star_sql.specs.declared.ast.Statement.TheVariants as statement
use Rattle.star_sql.specs.PieceStatement.{Said, Says}
use Rattle.star_engine.specs.State.{Tables}
use Rattle.star_engine.specs.Step.{piece_asks_store}
use Rattle.report_text.specs.Texts.{Bytes}
use Rattle.blink_run.specs.Script.{names_file, FilesAreNamed}

-- what holds of all holds of one among them
pub of_all : {X : Type 0} (P : X → Type 0) (done left : List X) (x : X) → All P (done ++ x ∷ left) → P x
of_all P [] left x all = All-head P x left all
of_all P (d ∷ done) left x all = of_all P done left x (All-tail P d (done ++ x ∷ left) all)

-- a piece that asks the store names a file
pub asking_names : (tables : Tables) (said : Said) → piece_asks_store tables said ≡ true → names_file said ≡ true
asking_names tables (Ok (statement.Create name columns)) asks = cc asks
asking_names tables (Ok (statement.Drop name)) asks = cc asks
asking_names tables (Ok (statement.Load name file)) asks = refl
asking_names tables (Ok (statement.Append name file)) asks = refl
asking_names tables (Ok (statement.Insert name rows)) asks = cc asks
asking_names tables (Ok (statement.Reorganize name)) asks = cc asks
asking_names tables (Ok (statement.Select s)) asks = cc asks
asking_names tables (Ok (statement.Describe name)) asks = cc asks
asking_names tables (Ok (statement.Explain s)) asks = cc asks
asking_names tables (Ok (statement.Export name file)) asks = refl
asking_names tables (Ok (statement.Import name file)) asks = refl
asking_names tables (Err why) asks = cc asks

-- pieces of which none names a file never ask the store
pub files_are_named : FilesAreNamed
files_are_named limits stay state texts none outcomes q =
    let P : Bytes → Type 0 = λ text. (said : Said) → Says text said → names_file said ≡ false in
    let named = of_all P q.done q.left q.text (All-same P (q.done ++ q.text ∷ q.left) texts (sym q.parts) none) q.said q.says in
    let names = asking_names _ q.said q.asks in
    absurd (cc (named, names))
