-- The byte that stands for each tag, and its word.
use Rattle.std.specs.Prelude.{◌≡◌, ℕ, List, cond, codes, Some, None, Option, ◌==◌}
use Rattle.registers.specs.declared.tag.Tag.{Tag}
use Rattle.registers.specs.declared.tag.Tag.TheVariants.{None as Untagged, Pro, Dec}

abbrev pub tag_byte : Tag → ℕ
tag_byte Untagged = 0x4E
tag_byte Pro = 0x50
tag_byte Dec = 0x44

-- the tag whose byte it is, if there is one
abbrev pub tag_of : ℕ → Option Tag
tag_of b =
    cond (b == tag_byte Untagged) (Some Untagged) (cond (b == tag_byte Pro) (Some Pro) (cond (b == tag_byte Dec) (Some Dec) None))

-- a byte that stands for a tag is read back as that tag
pub record StandsFor (t : Tag) (b : ℕ) : Type 0 where
  pub byte : b ≡ tag_byte t
  pub back : tag_of b ≡ Some t

-- what a byte is read as: the tag that it stands for, and no other byte does
pub record ReadTag (b : ℕ) (o : Option Tag) : Type 0 where
  pub value : o ≡ tag_of b
  pub only : (t : Tag) → o ≡ Some t → b ≡ tag_byte t

abbrev pub tag_word : Tag → List ℕ
tag_word Untagged = codes "none"
tag_word Pro = codes "pro"
tag_word Dec = codes "dec"
