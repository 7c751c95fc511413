-- The library's version, by the three numbers that the file VERSION has.
use Rattle.std.specs.Prelude.{ℕ, ◌+◌, ◌*◌}

abbrev pub major : ℕ
major = 0

abbrev pub minor : ℕ
minor = 10

abbrev pub patch : ℕ
patch = 0

-- one number, in which a later version is a greater one; minor and patch are below 1000
abbrev pub version_given : ℕ
version_given = 1000000 * major + 1000 * minor + patch
