-- One column more.
use Rattle.std.proofs.Common.{◌≡◌, ◌+◌, ◌++◌, ℕ, suc, ap, arith}
use Rattle.trace_tables.specs.Headings.{column_text, columns_text}

pub one_column_more : (r : ℕ) → columns_text (r + 1) ≡ columns_text r ++ column_text r
one_column_more r = let e : r + 1 ≡ suc r = omega arith in ap columns_text e
