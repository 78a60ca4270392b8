use Rattle.std.proofs.Common.{sym, ◌∙◌, arith}
use Rattle.dr_stream_reader.proofs.Headers as headers
use Rattle.dr_stream_reader.proofs.header.read_header.Goals as goal

pub returns-then-not-has_magic-clause-fault : goal.returns-then-not-has_magic-clause-fault
returns-then-not-has_magic-clause-fault c =
    headers.magic_fault c.args.bytes.now (sym c.has_magic.ensures ∙ c.if-not-has_magic.true)

pub returns-clause-header : goal.returns-clause-header
returns-clause-header c =
    headers.header_read c.args.bytes.now c.in_ok-version.version c.in_ok-pages.pages c.start.result (λ i. omega (arith, c.type_inv.bytes i))
    (sym c.has_magic.ensures ∙ c.if-not-has_magic.false) (c.in_ok-version.ensures.version) (c.in_ok-pages.ensures.pages) c.start.ensures
