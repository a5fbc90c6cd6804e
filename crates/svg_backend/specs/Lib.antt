pub mod SvgText
