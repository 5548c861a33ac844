-- Names that have a meaning of their own.
use Rattle.std.specs.Prelude.{ℕ, List, codes}

-- the function that a program begins with
abbrev pub main_name : List ℕ
main_name = codes "MAIN"
