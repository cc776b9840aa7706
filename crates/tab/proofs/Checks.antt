-- Tabs and what is read of them, computed: quotes, endings, zeros, and each way to be malformed.
use Rattle.std.specs.Prelude.{refl, [], ◌∷◌}
use Rattle.std.proofs.Common.{inl}
use Rattle.text.specs.Text.{ascii}
use Rattle.tab.specs.Grammar.{each, doubled, Field}
use Rattle.tab.specs.Reader.{digits, decimal, word, bare, quoted, line_end, field, line, rows_in}
use Rattle.tab.specs.Checks.{row_of, Reads, NoHeader}

-- two rows
pub plain : Reads "level,moves,goal\n7,40,1\n8,41,2\n" (row_of 7 40 1 ∷ row_of 8 41 2 ∷ []) ""
unfolding digits decimal word bare quoted line_end field line rows_in
plain = refl

-- "each field, the header's too, quoted or not, lines ended by LF or CRLF, the last ending optional"
pub quoted_mixed : Reads "\"level\",moves,\"goal\"\r\n\"7\",0040,\"1\"\n8,41,2" (row_of 7 40 1 ∷ row_of 8 41 2 ∷ []) ""
unfolding digits decimal word bare quoted line_end field line rows_in
quoted_mixed = refl

-- "rows, if any"
pub header_only : Reads "level,moves,goal" [] ""
unfolding digits decimal word bare quoted line_end field line rows_in
header_only = refl

-- "opening no row"
pub last_ending : Reads "level,moves,goal\r\n" [] ""
unfolding digits decimal word bare quoted line_end field line rows_in
last_ending = refl

-- a second ending opens a row, and an empty line is none
pub empty_line : Reads "level,moves,goal\n1,2,3\n\n" (row_of 1 2 3 ∷ []) "\n"
unfolding digits decimal word bare quoted line_end field line rows_in
empty_line = refl

-- "below 2^32"
pub too_large : Reads "level,moves,goal\n4294967295,0,0\n4294967296,0,0\n" (row_of 4294967295 0 0 ∷ []) "4294967296,0,0\n"
unfolding digits decimal word bare quoted line_end field line rows_in
too_large = refl

-- "leading zeros allowed", however many
pub zeros : Reads "level,moves,goal\n00000000000000000000000000000001,2,\"00000000000000000000000000000003\"" (row_of 1 2 3 ∷ []) ""
unfolding digits decimal word bare quoted line_end field line rows_in
zeros = refl

-- ---- lines that are no rows

-- a lone CR ends no line
pub lone_cr : Reads "level,moves,goal\n1,2,3\r" [] "1,2,3\r"
unfolding digits decimal word bare quoted line_end field line rows_in
lone_cr = refl

-- a legal field, but no number
pub doubled_quote : Reads "level,moves,goal\n\"1\"\"2\",2,3\n" [] "\"1\"\"2\",2,3\n"
unfolding digits decimal word bare quoted line_end field line rows_in
doubled_quote = refl

-- nothing may follow a closing quote
pub after_quote : Reads "level,moves,goal\n\"1\"0,2,3\n" [] "\"1\"0,2,3\n"
unfolding digits decimal word bare quoted line_end field line rows_in
after_quote = refl

-- a quote is closed
pub open_quote : Reads "level,moves,goal\n1,2,\"3\n" [] "1,2,\"3\n"
unfolding digits decimal word bare quoted line_end field line rows_in
open_quote = refl

-- a quote inside a field without quotes
pub inner_quote : Reads "level,moves,goal\n1\"2,2,3\n" [] "1\"2,2,3\n"
unfolding digits decimal word bare quoted line_end field line rows_in
inner_quote = refl

-- a line feed may stand between quotes, but no number has one
pub line_in_quotes : Reads "level,moves,goal\n1,2,\"3\n\"\n" [] "1,2,\"3\n\"\n"
unfolding digits decimal word bare quoted line_end field line rows_in
line_in_quotes = refl

-- a comma after the third field
pub fourth_field : Reads "level,moves,goal\n1,2,3,\n" [] "1,2,3,\n"
unfolding digits decimal word bare quoted line_end field line rows_in
fourth_field = refl

-- two fields
pub two_fields : Reads "level,moves,goal\n1,2\n" [] "1,2\n"
unfolding digits decimal word bare quoted line_end field line rows_in
two_fields = refl

-- a blank is no digit
pub blank : Reads "level,moves,goal\n1, 2,3\n" [] "1, 2,3\n"
unfolding digits decimal word bare quoted line_end field line rows_in
blank = refl

-- nor is a sign
pub sign : Reads "level,moves,goal\n+1,2,3\n" [] "+1,2,3\n"
unfolding digits decimal word bare quoted line_end field line rows_in
sign = refl

-- an empty field is no number
pub empty_field : Reads "level,moves,goal\n1,,3\n" [] "1,,3\n"
unfolding digits decimal word bare quoted line_end field line rows_in
empty_field = refl

-- a quote in a value is written twice
pub escaped_quote : Field (ascii "\"1\"\"2\"") (ascii "1\"2")
unfolding each doubled
escaped_quote = inl (record { may = refl; is = refl })

-- request 6: "a file of no bytes"
pub nothing : Reads "" [] ""
unfolding rows_in
nothing = refl

-- ---- texts without a header

-- a row in its place
pub no_header : NoHeader "1,2,3\n"
unfolding digits decimal word bare quoted line_end field line
no_header = refl

-- the names are in lower case
pub upper_case : NoHeader "Level,moves,goal\n"
unfolding digits decimal word bare quoted line_end field line
upper_case = refl

-- and in this order
pub other_order : NoHeader "level,goal,moves\n"
unfolding digits decimal word bare quoted line_end field line
other_order = refl

-- all of a name
pub cut_name : NoHeader "level,moves,goa\n"
unfolding digits decimal word bare quoted line_end field line
cut_name = refl

-- and no more
pub long_name : NoHeader "level,moves,goals\n"
unfolding digits decimal word bare quoted line_end field line
long_name = refl

-- a quote is closed
pub open_name : NoHeader "level,moves,\"goal\n"
unfolding digits decimal word bare quoted line_end field line
open_name = refl

-- only a line end
pub only_ending : NoHeader "\n"
unfolding digits decimal word bare quoted line_end field line
only_ending = refl

-- also with a return
pub only_return : NoHeader "\r\n"
unfolding digits decimal word bare quoted line_end field line
only_return = refl
