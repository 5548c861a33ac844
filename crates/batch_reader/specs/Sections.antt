-- The sections of a batch, by what each line is by itself.
use Rattle.batch_reader.specs.declared.heading.Heading.{Heading}
use Rattle.batch_reader.specs.declared.heading.Heading.TheVariants as heading
use Rattle.batch_reader.specs.declared.section.Section.{Section}
use Rattle.batch_reader.specs.declared.section.Section.TheVariants.{Between, Headed, Signatures, Code}

-- the section of the line after a line of this section
abbrev pub section_after : Section → Heading → Section
section_after Between heading.Blank = Between
section_after Between heading.SecondRule = Between
section_after Between _ = Headed
section_after Headed _ = Signatures
section_after Signatures heading.Code = Code
section_after Signatures _ = Signatures
section_after Code heading.End = Between
section_after Code _ = Code
