pub mod SideTexts
