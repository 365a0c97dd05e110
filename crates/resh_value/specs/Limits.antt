-- Limits that all crates share, and the bytes of a name that mean more than themselves.
use Rattle.std.specs.Prelude.{ℕ, ◌^◌}

-- so many bytes has the longest text of a stored document
abbrev pub text_limit : ℕ
text_limit = 16384

-- places of a feed and positions in a lane end here
abbrev pub end_of_places : ℕ
end_of_places = 2 ^ 62

-- `.` joins the names of a path
abbrev pub dot : ℕ
dot = 46

-- `$` begins the names of tags and operators
abbrev pub dollar : ℕ
dollar = 36
