-- Four ports in memory.
use Rattle.std.specs.Prelude.{ℕ, List, [], ◌++◌, Some}
use Rattle.dr_types.specs.declared.port.Port.{Port}
use Rattle.dr_types.specs.declared.port.Port.TheVariants.{Report, Stream, Image, Journal}
use Rattle.dr_types.specs.Ports.{Ports}
use Rattle.dr_io.specs.Numbers.{one_more}
use Rattle.dr_io.specs.declared.outlet.PutTurn.{PutTurn}
use Rattle.dr_io.specs.declared.outlet.PutTurn.TheVariants.{Done, Failed}

-- the bytes of each port, the puts that fail, and how many puts and failures there were
pub record Book : Type 0 where
  pub report : List ℕ
  pub stream : List ℕ
  pub image : List ℕ
  pub journal : List ℕ
  pub fails : List ℕ
  pub puts : ℕ
  pub faults : ℕ

-- four empty ports, of which these puts fail
abbrev pub empty_book : List ℕ → Book
empty_book fails = record {
  report = [];
  stream = [];
  image = [];
  journal = [];
  fails = fails;
  puts = 0;
  faults = 0;
}

-- what a book tells: the bytes of all four ports
abbrev pub told_by : Book → Ports
told_by b = record {
  report = Some b.report;
  stream = Some b.stream;
  image = Some b.image;
  journal = Some b.journal;
}

-- the bytes of a port
abbrev pub bytes_of : Port → Book → List ℕ
bytes_of Report b = b.report
bytes_of Stream b = b.stream
bytes_of Image b = b.image
bytes_of Journal b = b.journal

-- the book with these bytes after a port's
abbrev pub with_added : Port → List ℕ → Book → Book
with_added Report more b = record b { report = b.report ++ more }
with_added Stream more b = record b { stream = b.stream ++ more }
with_added Image more b = record b { image = b.image ++ more }
with_added Journal more b = record b { journal = b.journal ++ more }

-- the book with one more put
abbrev pub counted : Book → Book
counted b = record b { puts = one_more b.puts }

-- the book after a put of these bytes with this answer
abbrev pub after_put : Book → Port → List ℕ → PutTurn → Book
after_put b port bytes Done = with_added port bytes (counted b)
after_put b port bytes Failed = record (counted b) { faults = one_more b.faults }
