-- The kinds of records.
use Rattle.std.specs.Prelude.{ℕ, ◌==◌, ◌&&◌, if◌then◌else◌, Option, Some, None}

-- how many bytes a record of this kind has, where a stream of this version has such records
abbrev pub bytes_of_kind : ℕ → ℕ → Option ℕ
bytes_of_kind version kind =
    if kind == 1 then Some 8
    else if kind == 2 then Some 4104
    else if kind == 3 then Some 8
    else if kind == 4 && version == 2 then Some 12
    else None
