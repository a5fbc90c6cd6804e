-- What a run that found all certificates right says of the text.
pub mod Checked
pub mod RightTexts
